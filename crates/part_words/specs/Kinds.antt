-- Kinds by their numbers (docs/FORMATS.md): 1 to 6 are action formulas, 10 to 23 policies.
-- Assumes nothing.
use Rattle.std.specs.Prelude.{List, [], ◌∷◌, ℕ, get_or}
use Rattle.messages.specs.Message.{bytes}

-- the word of each kind, from 0 on; the letter of a proposition
abbrev pub kind_words : List (List ℕ)
kind_words =
    []
    ∷ bytes "true"
    ∷ bytes "false"
    ∷ bytes "p"
    ∷ bytes "not"
    ∷ bytes "and"
    ∷ bytes "or"
    ∷ []
    ∷ []
    ∷ []
    ∷ bytes "now"
    ∷ bytes "holds"
    ∷ bytes "count"
    ∷ bytes "not"
    ∷ bytes "and"
    ∷ bytes "or"
    ∷ bytes "eventually"
    ∷ bytes "always"
    ∷ bytes "before"
    ∷ bytes "before"
    ∷ bytes "after"
    ∷ bytes "after"
    ∷ bytes "fulfilling"
    ∷ bytes "ignoring"
    ∷ []

unfoldable pub kind_word : ℕ → List ℕ
kind_word kind = get_or kind_words kind []

-- how many parts each kind has, from 0 on
abbrev pub part_counts : List ℕ
part_counts = 0 ∷ 0 ∷ 0 ∷ 0 ∷ 1 ∷ 2 ∷ 2 ∷ 0 ∷ 0 ∷ 0 ∷ 1 ∷ 1 ∷ 0 ∷ 1 ∷ 2 ∷ 2 ∷ 1 ∷ 1 ∷ 2 ∷ 2 ∷ 2 ∷ 2 ∷ 3 ∷ 2 ∷ []

unfoldable pub part_count : ℕ → ℕ
part_count kind = get_or part_counts kind 0
