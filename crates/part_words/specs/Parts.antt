-- The text of a node of a sheet, given as bytes: its own words, then those of its parts, first part first, with a space before each word.
-- Assumes nothing.
use Rattle.std.specs.Prelude.{◌≡◌, cond, ◌||◌, List, [], ◌∷◌, ◌++◌, ℕ, zero, suc, ◌+◌, ◌≤◌, eqb, length, take, drop}
use Rattle.sheet_layout.specs.Layout.{field}
use Rattle.messages.specs.Message.{bytes, decimal}
use Rattle.part_words.specs.Kinds.{kind_word, part_count}

-- the number of a node: right behind the letter of a proposition (kind 3), a word of its own behind count (12) and fulfilling (22)
unfoldable pub argument_text : (kind argument : ℕ) → List ℕ
argument_text kind argument = cond (eqb kind 3) (decimal argument) (cond (eqb kind 12 || eqb kind 22) (32 ∷ decimal argument) [])

-- the words that a node of a kind itself is
abbrev pub own_text : (kind argument : ℕ) → List ℕ
own_text kind argument = 32 ∷ (kind_word kind ++ argument_text kind argument)

abbrev pub node_text : List ℕ → ℕ → List ℕ
node_text sheet node = own_text (field sheet node 0) (field sheet node 1)

-- the parts of a node of a kind, of the three that there is room for
abbrev pub parts_among : (kind a b c : ℕ) → List ℕ
parts_among kind a b c = take (part_count kind) (a ∷ b ∷ c ∷ [])

abbrev pub node_parts : List ℕ → ℕ → List ℕ
node_parts sheet node = parts_among (field sheet node 0) (field sheet node 2) (field sheet node 3) (field sheet node 4)

-- what is said where nodes are left and no more are said
abbrev pub cut_text : List ℕ
cut_text = bytes " .."

-- what is said of a stack: nothing where it is empty, else by its first node and the others
abbrev pub on_stack : (ℕ → List ℕ → List ℕ) → List ℕ → List ℕ
on_stack say [] = []
on_stack say (node ∷ stack) = say node stack

-- the text of nodes one after the other, n nodes at the most: the first one's words, then its parts and the others
unfoldable pub stack_text : List ℕ → (n : ℕ) → List ℕ → List ℕ
stack_text sheet zero = on_stack (λ node stack. cut_text)
stack_text sheet (suc n) = on_stack (λ node stack. node_text sheet node ++ stack_text sheet n (node_parts sheet node ++ stack))

-- the text of a node: 64 nodes at the most, as a rule text has
abbrev pub part_text : List ℕ → ℕ → List ℕ
part_text sheet node = stack_text sheet 64 (node ∷ [])

-- Nodes are put on top of a stack that stands in an area from a place on.
pub record Pushed (nodes old : List ℕ) (from : ℕ) (new : List ℕ) (top : ℕ) : Type 0 where
  pub sized : length new ≡ length old
  pub on-top : drop top new ≡ nodes ++ drop from old
  pub few : from ≤ top + 3
  pub onward : top ≤ from
