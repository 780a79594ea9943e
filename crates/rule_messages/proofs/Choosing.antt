-- Laws of the tests and of the first reason that holds.
-- Assumes nothing.
use Rattle.std.specs.Prelude.{unwrap_or}
use mathlib.Core.Path.{◌≡◌, refl}
use mathlib.Core.Bool.{Bool, true, false, cond, ◌&&◌}
use mathlib.Core.List.{List, [], ◌∷◌}
use Prim.Native.Nat.{ℕ, zero, suc, ◌+◌, ◌≤◌, ◌<◌}
use native.Mathlib.Numerals.{add-one}
use native.Mathlib.Omega.{arith}
use lib.Dec.{leb}
use lib.ListN.{length, drop, get_or}
use lib.Seq.{drop-cons}
use Rattle.grammar.specs.Spelling.{same}
use Rattle.grammar.specs.declared.Category.{Category}
use Rattle.messages.specs.Message.{bytes, filled}
use Rattle.rule_messages.specs.Misfits.{any_between, by_word, strange_of, is_end, misfit_of}
use Rattle.rule_messages.specs.Told.{rule_text}
use Rattle.rule_messages.specs.declared.Misfit.{Misfit}
use Rattle.rule_messages.specs.declared.Misfit.TheVariants.{Missing, Separator, Whole}

-- nothing is left past the end
drop_all : (k : ℕ) (l : List ℕ) → length l ≤ k → drop k l ≡ []
drop_all zero [] h = refl
drop_all zero (x ∷ l) h = absurd (omega arith)
drop_all (suc k) [] h = refl
drop_all (suc k) (x ∷ l) h = drop_all k l (omega arith)

module _ (low high : ℕ) (w : List ℕ) where
  -- a byte in the range, and one that is not
  pub found_between : (k : ℕ) → k < length w → leb low (get_or w k 0) && leb (get_or w k 0) high ≡ true → any_between low high (drop k w) ≡ true
  unfolding any_between
  found_between k h e = rw (drop-cons w k 0 h, e)

  pub not-between : (k : ℕ) → k < length w → leb low (get_or w k 0) && leb (get_or w k 0) high ≡ false
      → any_between low high (drop k w) ≡ any_between low high (drop (k + 1) w)
  unfolding any_between
  not-between k h e = rw (drop-cons w k 0 h, e, add-one k)

  pub none_between : (k : ℕ) → length w ≤ k → any_between low high (drop k w) ≡ false
  unfolding any_between
  none_between k h = rw (drop_all k w h)

-- The first reason where its test holds, and else what the others say.
pub pick_true : (reason others : Misfit) → reason ≡ cond true reason others
pick_true reason others = refl

pub pick-false : (reason others : Misfit) → others ≡ cond false reason others
pick-false reason others = refl

pub misfit-none : (w : List ℕ) (expected : Category) (named : Bool) → length w ≡ 0 → Missing ≡ misfit_of w expected named
unfolding misfit_of
misfit-none [] expected named e = refl
misfit-none (byte ∷ rest) expected named e = absurd (omega arith)

pub misfit-some : (w : List ℕ) (expected : Category) (named : Bool) → 0 < length w
    → cond (same w (bytes "---")) Separator (cond (is_end expected) Whole (unwrap_or (strange_of w) (by_word w expected named))) ≡ misfit_of w expected named
unfolding misfit_of
misfit-some [] expected named h = absurd (omega arith)
misfit-some (byte ∷ rest) expected named h = refl

pub no-rule : (rule : ℕ) → rule ≡ 0 → [] ≡ rule_text rule
unfolding rule_text
no-rule zero e = refl
no-rule (suc rule) e = absurd (omega arith)

pub some-rule : (rule : ℕ) → (rule ≡ 0 → ⊥) → filled (bytes "rule #, ") rule 0 [] ≡ rule_text rule
unfolding rule_text
some-rule zero n = absurd (n refl)
some-rule (suc rule) n = refl
