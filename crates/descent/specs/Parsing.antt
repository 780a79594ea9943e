-- What a reader of a category gives: a reading of the words from its position on, with its nodes written; or where it is stuck.
-- Assumes nothing.
use Rattle.std.specs.Prelude.{◌≡◌, List, [], ◌∷◌, ◌++◌, ℕ, ◌+◌, ◌-◌, ◌≤◌, length}
use Rattle.sheet_writer.specs.Bytes.{node_room}
use Rattle.sheet_writer.specs.Writing.{Wrote}
use Rattle.grammar.specs.Words.{Word}
use Rattle.grammar.specs.Grammar.{TextRule, Reading, Reads}
use Rattle.grammar.specs.Productions.{Sticks}
use Rattle.grammar.specs.Nodes.{nodes_of}
use Rattle.grammar.specs.declared.Category.{Category}
use Rattle.grammar.specs.declared.Category.TheVariants.{Text, Number, End}
use Rattle.lexer.specs.Next.{words_from}
use Rattle.parser_state.specs.Progress.{Sane}
use Rattle.parser_state.specs.declared.Progress.{Progress}
use Rattle.parser_state.specs.declared.Progress.TheVariants.{Going, Stuck}

-- How much of the text is unread: nothing where reading is stuck.
abbrev pub unread : List ℕ → Progress → ℕ
unread text (Going at words nodes) = length text - at
unread text (Stuck words expected) = 0

-- What a reader is lent: a text, how far it has been read, and room for the bytes of 64 nodes.
pub record CanRead (text : List ℕ) (p : Progress) (room : List ℕ) : Type 0 where
  pub sane : Sane text p
  pub sixty-four : length room ≡ node_room

-- The words from a position on begin with words of the category, up to another position.
pub record ReadTo (c : Category) (text : List ℕ) (at : ℕ) (ws : List Word) (x : Reading c) (to : ℕ) : Type 0 where
  pub reads : Reads c ws x
  pub split : words_from text at ≡ ws ++ words_from text to
  pub far : at + length ws ≤ to
  pub within : to ≤ length text

-- What a reader gives from a position on, after some words and nodes.
pub data Took (c : Category) (text before behind : List ℕ) (at words nodes : ℕ) : Progress → Type 0 where
  takes : {ws : List Word} {x : Reading c} {to m n : ℕ} → ReadTo c text at ws x to → m ≡ words + length ws → n ≡ nodes + length (nodes_of c nodes x)
      → length (nodes_of c nodes x) ≤ length ws → Wrote (nodes_of c nodes x) nodes before behind
      → Took c text before behind at words nodes (Going to m n)
  sticks : {k m : ℕ} {d : Category} → Sticks (c ∷ []) (words_from text at) k d → m ≡ words + k → Took c text before behind at words nodes (Stuck m d)

-- Where reading is stuck already it stays so.
abbrev pub TookBy : (c : Category) (text before behind : List ℕ) → Progress → Progress → Type 0
TookBy c text before behind (Going at words nodes) r = Took c text before behind at words nodes r
TookBy c text before behind (Stuck words expected) r = r ≡ Stuck words expected

pub record Parses (c : Category) (text : List ℕ) (p : Progress) (before : List ℕ) (r : Progress) (behind : List ℕ) : Type 0 where
  pub took : TookBy c text before behind p r
  pub sane : Sane text r
  pub onward : unread text r ≤ unread text p
  pub sized : length behind ≡ length before

-- What the reader of a number gives: it writes no node.
pub data TookNumber (text : List ℕ) (at words nodes : ℕ) : Progress → ℕ → Type 0 where
  takes : {ws : List Word} {k to m : ℕ} → ReadTo Number text at ws k to → m ≡ words + length ws → TookNumber text at words nodes (Going to m nodes) k
  sticks : {k m any : ℕ} {d : Category} → Sticks (Number ∷ []) (words_from text at) k d → m ≡ words + k → TookNumber text at words nodes (Stuck m d) any

abbrev pub TookNumberBy : List ℕ → Progress → Progress → ℕ → Type 0
TookNumberBy text (Going at words nodes) r k = TookNumber text at words nodes r k
TookNumberBy text (Stuck words expected) r k = r ≡ Stuck words expected

pub record ParsesNumber (text : List ℕ) (p r : Progress) (k : ℕ) : Type 0 where
  pub took : TookNumberBy text p r k
  pub sane : Sane text r
  pub onward : unread text r ≤ unread text p

-- The text ends at a position, or reading is stuck before a word that stands there.
pub data EndsAt (text : List ℕ) (at words nodes : ℕ) : Progress → Type 0 where
  ends : words_from text at ≡ [] → EndsAt text at words nodes (Going at words nodes)
  goes_on : (w : Word) (to : ℕ) → words_from text at ≡ w ∷ words_from text to → EndsAt text at words nodes (Stuck words End)

abbrev pub ParsesEnd : List ℕ → Progress → Progress → Type 0
ParsesEnd text (Going at words nodes) r = EndsAt text at words nodes r
ParsesEnd text (Stuck words expected) r = r ≡ Stuck words expected

-- A whole text: its words have a reading, and its nodes are written from the front on; or it sticks.
pub data ParsesText (text behind : List ℕ) : Progress → Type 0 where
  whole : {rule : TextRule} {at words : ℕ} → Reads Text (words_from text 0) rule → (before : List ℕ) → Wrote (nodes_of Text 0 rule) 0 before behind
      → ParsesText text behind (Going at words (length (nodes_of Text 0 rule)))
  sticks : {k : ℕ} {d : Category} → Sticks (Text ∷ End ∷ []) (words_from text 0) k d → ParsesText text behind (Stuck k d)
