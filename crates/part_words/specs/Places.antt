-- Where the word of a node stands in the text of its sheet. The nodes of such a sheet stand behind their parts, and none is shared; a word stands
-- before those of its parts.
-- Assumes nothing.
use Rattle.std.specs.Prelude.{Bool, cond, ◌&&◌, ◌||◌, List, ℕ, zero, suc, ◌+◌, eqb, leb, ltb}
use Rattle.sheet_layout.specs.Layout.{field, node_count}
use Rattle.part_words.specs.Kinds.{part_count}

-- a node's first part; the node itself where it has none
abbrev pub first_part : List ℕ → ℕ → ℕ
first_part sheet node = cond (eqb (part_count (field sheet node 0)) 0) node (field sheet node 2)

-- the first of the nodes that a node is made of: from first part to first part, each before the last, in so many turns at the most
unfoldable pub first_within : List ℕ → (turns node : ℕ) → ℕ
first_within sheet zero node = node
first_within sheet (suc turns) node = cond (ltb (first_part sheet node) node) (first_within sheet turns (first_part sheet node)) node

abbrev pub first_under : List ℕ → ℕ → ℕ
first_under sheet node = first_within sheet node node

-- whether the word of a node stands before that of another: all of it stands before the other's first node, or the other is one of its own
unfoldable pub stands_before : List ℕ → (node other : ℕ) → Bool
stands_before sheet node other = cond (ltb node other) (ltb node (first_under sheet other)) (ltb other node && leb (first_under sheet node) other)

-- how many words a node of a kind itself is: one, and the number of a count (12) and a fulfilling (22)
unfoldable pub word_count : (kind : ℕ) → ℕ
word_count kind = cond (eqb kind 12 || eqb kind 22) 2 1

abbrev pub own_words : List ℕ → ℕ → ℕ
own_words sheet node = word_count (field sheet node 0)

-- those of them that stand before the word of another node
unfoldable pub words_if_before : List ℕ → (node other : ℕ) → ℕ
words_if_before sheet node other = cond (stands_before sheet node other) (own_words sheet node) 0

-- of the first n nodes
unfoldable pub words_among : List ℕ → (other n : ℕ) → ℕ
words_among sheet other zero = 0
words_among sheet other (suc n) = words_among sheet other n + words_if_before sheet n other

-- of the text: its first word, which is no node's, and those of the nodes
abbrev pub words_before : List ℕ → ℕ → ℕ
words_before sheet node = 1 + words_among sheet node (node_count sheet)
