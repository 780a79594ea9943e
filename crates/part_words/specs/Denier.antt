-- The line that says which node denied: its number and its word, where it stands, and the part of the rule that it is.
-- Assumes nothing.
use Rattle.std.specs.Prelude.{List, [], ◌++◌, ℕ, zero, suc}
use Rattle.sheet_layout.specs.Layout.{field}
use Rattle.messages.specs.Message.{filled}
use Rattle.catalogue.specs.Catalogue.{denier, denier_end, of_rule, at_word, part, line_end}
use Rattle.part_words.specs.Kinds.{kind_word}
use Rattle.part_words.specs.Parts.{part_text}

-- a message with no word, and one with no number either
abbrev numbered : List ℕ → (first second : ℕ) → List ℕ
numbered message first second = filled message first second []

abbrev plain : List ℕ → List ℕ
plain message = filled message 0 0 []

abbrev pub head_text : List ℕ → ℕ → List ℕ
head_text sheet node = numbered denier node 0 ++ (kind_word (field sheet node 0) ++ plain denier_end)

-- the rule by its number; 0 where there is one rule
unfoldable pub denier_rule : ℕ → List ℕ
denier_rule zero = []
denier_rule (suc rule) = numbered of_rule (suc rule) 0

-- the rule, the line and the word in it; line 0 where the rule was not written as words
unfoldable pub denier_place : (rule line word : ℕ) → List ℕ
denier_place rule zero word = []
denier_place rule (suc line) word = denier_rule rule ++ numbered at_word (suc line) word

abbrev pub shown_text : List ℕ → ℕ → List ℕ
shown_text sheet node = plain part ++ (part_text sheet node ++ plain line_end)

abbrev pub denier_text : List ℕ → (node rule line word : ℕ) → List ℕ
denier_text sheet node rule line word = head_text sheet node ++ (denier_place rule line word ++ shown_text sheet node)
