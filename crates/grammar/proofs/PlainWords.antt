-- The words of the language have lower-case letters and digits alone: a word with any other byte fits nothing.
-- Assumes nothing.
use mathlib.Core.Path.{◌≡◌, refl, sym, ◌∙◌}
use mathlib.Core.Bool.{Bool, true, false, cond, ◌&&◌}
use mathlib.Core.List.{List, [], ◌∷◌}
use mathlib.Core.Logic.{inl}
use Prim.Native.Nat.{ℕ, zero, suc, ◌+◌, ◌/◌, ◌%◌, ◌≤◌, ◌<◌}
use native.Mathlib.Omega.{arith}
use lib.Dec.{leb, ltb}
use lib.ListN.{length, get_or}
use borrow.Author.Tests.{le-leb, ltb-true}
use Rattle.base.proofs.Truths.{not-true, and-true, both_true, either_true}
use Rattle.grammar.specs.Words.{Word}
use Rattle.grammar.specs.Spelling.{is_digit, is_plain, number_word}
use Rattle.grammar.specs.Productions.{Fits, watch, enforce, now-w, count-w, not-w, and-w, or-w, eventually-w, before-w, after-w, ignoring-w, holds-e, not-e, and-e, or-e, always-e, before-e, after-e, fulfilling-e, ignoring-e, true-a, false-a, proposition-a, not_a, and-a, or-a, number, Misfit}
use Rattle.grammar.specs.declared.Category.{Category}

-- every byte of a word
abbrev all_plain : Word → Bool
all_plain [] = true
all_plain (byte ∷ rest) = is_plain byte && all_plain rest

plain_at : (w : Word) → all_plain w ≡ true → (i : ℕ) → i < length w → is_plain (get_or w i 0) ≡ true
plain_at [] e i h = absurd (omega arith)
plain_at (byte ∷ rest) e zero h = (and-true (is_plain byte) (all_plain rest) e).0
plain_at (byte ∷ rest) e (suc i) h = plain_at rest (and-true (is_plain byte) (all_plain rest) e).1 i (omega arith)

digit-plain : (d : ℕ) → d ≤ 9 → is_plain (48 + d) ≡ true
digit-plain d h =
    either_true (is_digit (48 + d)) (leb 97 (48 + d) && leb (48 + d) 122) (inl (both_true (le-leb 48 (48 + d) (omega arith)) (le-leb (48 + d) 57 (omega arith))))

digits-plain : (n : ℕ) → n ≤ 60 → all_plain (number_word n) ≡ true
digits-plain n h = by (ltb n 10) refl
  where
    by : (b : Bool) → ltb n 10 ≡ b → all_plain (cond b ((48 + n) ∷ []) ((48 + n / 10) ∷ (48 + n % 10) ∷ [])) ≡ true
    by true e = both_true (digit-plain n (omega (arith, ltb-true n 10 e))) refl
    by false e = both_true (digit-plain (n / 10) (omega arith)) (both_true (digit-plain (n % 10) (omega arith)) refl)

word-plain : {c : Category} {w : Word} {parts : List Category} → Fits c w parts → all_plain w ≡ true
word-plain watch = refl
word-plain enforce = refl
word-plain now-w = refl
word-plain count-w = refl
word-plain not-w = refl
word-plain and-w = refl
word-plain or-w = refl
word-plain eventually-w = refl
word-plain before-w = refl
word-plain after-w = refl
word-plain ignoring-w = refl
word-plain holds-e = refl
word-plain not-e = refl
word-plain and-e = refl
word-plain or-e = refl
word-plain always-e = refl
word-plain before-e = refl
word-plain after-e = refl
word-plain fulfilling-e = refl
word-plain ignoring-e = refl
word-plain true-a = refl
word-plain false-a = refl
word-plain (proposition-a {p} h) = digits-plain p (omega arith)
word-plain not_a = refl
word-plain and-a = refl
word-plain or-a = refl
word-plain (number {k} l h) = digits-plain k h

-- A word that fits anything has lower-case letters and digits alone.
pub fits-plain : {c : Category} {w : Word} {parts : List Category} → Fits c w parts → (i : ℕ) → i < length w → is_plain (get_or w i 0) ≡ true
fits-plain {w = w} f = plain_at w (word-plain f)

-- A word with any other byte fits nothing.
pub misfit-byte : (c : Category) (w : Word) (i : ℕ) → i < length w → is_plain (get_or w i 0) ≡ false → Misfit c w
misfit-byte c w i h e = record { none = λ f. not-true (sym e ∙ fits-plain f i h) }
