-- The pieces of the denier's line that may be left out.
-- Assumes nothing.
use mathlib.Core.Path.{◌≡◌, refl}
use mathlib.Core.List.{[], ◌++◌}
use Prim.Native.Nat.{ℕ, zero, suc}
use Rattle.messages.specs.Message.{filled}
use Rattle.catalogue.specs.Catalogue.{of_rule, at_word}
use Rattle.part_words.specs.Denier.{denier_rule, denier_place}

pub no-rule : (rule : ℕ) → rule ≡ 0 → [] ≡ denier_rule rule
unfolding denier_rule
no-rule rule e = rw e

pub some-rule : (rule : ℕ) → (rule ≡ 0 → ⊥) → filled of_rule rule 0 [] ≡ denier_rule rule
unfolding denier_rule
some-rule zero n = absurd (n refl)
some-rule (suc rule) n = refl

pub no_place : (rule line word : ℕ) → line ≡ 0 → [] ≡ denier_place rule line word
unfolding denier_place
no_place rule line word e = rw e

pub some-place : (rule line word : ℕ) → (line ≡ 0 → ⊥) → denier_rule rule ++ filled at_word line word [] ≡ denier_place rule line word
unfolding denier_place
some-place rule zero word n = absurd (n refl)
some-place rule (suc line) word n = refl
