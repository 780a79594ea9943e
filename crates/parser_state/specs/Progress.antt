-- How far reading has come, and what taking a word and closing a node do to it.
-- Assumes nothing.
use Rattle.std.specs.Prelude.{◌≡◌, List, [], ◌∷◌, ℕ, ◌+◌, ◌-◌, ◌%◌, ◌≤◌, ◌<◌, length}
use Rattle.sheet_writer.specs.Bytes.{node_room}
use Rattle.sheet_writer.specs.Writing.{WroteOne}
use Rattle.grammar.specs.Words.{Word}
use Rattle.grammar.specs.Spelling.{token_of}
use Rattle.grammar.specs.declared.Category.{Category}
use Rattle.grammar.specs.declared.Token.{Token}
use Rattle.lexer.specs.Next.{words_from}
use Rattle.parser_state.specs.Packed.{progress_of}
use Rattle.parser_state.specs.declared.Taken.{Taken}
use Rattle.parser_state.specs.declared.Taken.TheVariants.{Word as found, Nothing as nothing_left}
use Rattle.parser_state.specs.declared.Progress.{Progress}
use Rattle.parser_state.specs.declared.Progress.TheVariants.{Going, Stuck}

-- The bytes of the longest text that is read.
abbrev pub longest_text : ℕ
longest_text = 1024

-- The position, and the words and nodes before it; 0 where reading is stuck.
abbrev pub position_in : Progress → ℕ
position_in (Going at words nodes) = at
position_in (Stuck words expected) = 0

abbrev pub words_in : Progress → ℕ
words_in (Going at words nodes) = words
words_in (Stuck words expected) = 0

abbrev pub nodes_in : Progress → ℕ
nodes_in (Going at words nodes) = nodes
nodes_in (Stuck words expected) = 0

-- A byte is below this.
abbrev pub byte_size : ℕ
byte_size = 256

-- The number of the last node before the position, in a byte.
abbrev pub root_of : Progress → ℕ
root_of (Going at words nodes) = (nodes % byte_size + (byte_size - 1)) % byte_size
root_of (Stuck words expected) = 0

-- Reading is stuck before the word that comes next, or where it was already.
abbrev pub stuck_at : Progress → Category → Progress
stuck_at (Going at words nodes) c = Stuck words c
stuck_at (Stuck words expected) c = Stuck words expected

-- A word has a byte or more, a node a word or more.
pub record Sane (text : List ℕ) (p : Progress) : Type 0 where
  pub short : length text ≤ longest_text
  pub inside : position_in p ≤ length text
  pub few_words : words_in p ≤ position_in p
  pub few-nodes : nodes_in p ≤ words_in p

-- A word stands at the position of a reading that goes on: its token, and the progress after it.
pub record Here (text : List ℕ) (p : Progress) (token : Token) (behind : Progress) : Type 0 where
  pub at : ℕ
  pub words : ℕ
  pub nodes : ℕ
  pub next : ℕ
  pub going : p ≡ Going at words nodes
  pub goes_on : behind ≡ Going next (words + 1) nodes
  pub sane : Sane text (Going at words nodes)
  pub this : Word
  pub is : token_of this ≡ token
  pub far : at < next
  pub inside : next ≤ length text
  pub ahead : words_from text at ≡ this ∷ words_from text next

-- No word is left, or reading is stuck.
abbrev pub Exhausted : List ℕ → Progress → Type 0
Exhausted text (Going at words nodes) = words_from text at ≡ []
Exhausted text (Stuck words expected) = Unit {0}

-- What taking a word gives.
pub data Takes (text : List ℕ) (p : Progress) : Taken → Type 0 where
  word : {token : Token} {behind : ℕ} → Here text p token (progress_of behind) → Takes text p (found token behind)
  nothing : Exhausted text p → Takes text p nothing_left

-- A node of these bytes is added where reading goes on.
abbrev pub Closes : List ℕ → List ℕ → List ℕ → Progress → Progress → Type 0
Closes bytes before behind (Going at words nodes) r = (r ≡ Going at words (nodes + 1)) × WroteOne bytes nodes before behind
Closes bytes before behind (Stuck words expected) r = (r ≡ Stuck words expected) × (length behind ≡ length before)

-- What adding a node asks.
pub record Closable (p : Progress) (room : List ℕ) : Type 0 where
  pub few-nodes : nodes_in p ≤ longest_text
  pub sixty-four : length room ≡ node_room
