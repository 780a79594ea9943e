-- An example: the sheet of the text `enforce not count 5`, its second node denies.
-- Assumes nothing.
use mathlib.Core.Path.{◌≡◌, refl}
use mathlib.Core.List.{List, [], ◌∷◌}
use Prim.Native.Nat.{ℕ}
use Rattle.messages.specs.Message.{bytes, decimal, hole, filled}
use Rattle.part_words.specs.Kinds.{kind_word, part_count}
use Rattle.part_words.specs.Parts.{argument_text, stack_text}
use Rattle.catalogue.specs.Catalogue.{denier, denier_end, of_rule, at_word, part, line_end}
use Rattle.part_words.specs.Places.{first_within, stands_before, word_count, words_if_before, words_among, words_before}
use Rattle.part_words.specs.Denier.{denier_rule, denier_place, denier_text}

abbrev sheet : List ℕ
sheet = 1 ∷ 0 ∷ 2 ∷ 0 ∷ 10 ∷ 0 ∷ 12 ∷ 0 ∷ 22 ∷ 0 ∷ 1 ∷ 0 ∷ 12 ∷ 5 ∷ 0 ∷ 0 ∷ 0 ∷ 13 ∷ 0 ∷ 0 ∷ 0 ∷ 0 ∷ []

denied : denier_text sheet 1 2 7 2 ≡ bytes "node 1 (not) denies it, rule 2, line 7, word 2: not count 5\n"
unfolding decimal hole filled denier denier_end of_rule at_word part line_end kind_word part_count argument_text stack_text denier_rule denier_place
denied = refl

before-not : words_before sheet 1 ≡ 1
unfolding part_count first_within stands_before word_count words_if_before words_among
before-not = refl

before-count : words_before sheet 0 ≡ 2
unfolding part_count first_within stands_before word_count words_if_before words_among
before-count = refl
