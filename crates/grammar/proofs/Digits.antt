-- A number below 100 and its digits say the same.
-- Assumes nothing.
use mathlib.Core.Path.{◌≡◌, refl}
use mathlib.Core.Bool.{Bool, true, false, ◌&&◌}
use mathlib.Core.List.{[], ◌∷◌}
use Prim.Native.Nat.{ℕ, ◌+◌, ◌*◌, ◌-◌, ◌/◌, ◌%◌, ◌≤◌, ◌<◌}
use native.Mathlib.Omega.{arith}
use lib.Dec.{leb, ltb}
use lib.ListN.{length, get_or}
use borrow.Author.Tests.{ltb-true, ltb-false, leb-true, lt-ltb, le-ltb, le-leb, ne_eqb}
use Rattle.base.proofs.Truths.{and-true}
use Rattle.grammar.specs.Words.{Word}
use Rattle.grammar.specs.Spelling.{number_word, is_digit, one_digit, two_digits, value_of}

-- The digits of a number.
short : (n : ℕ) → n < 10 → number_word n ≡ (48 + n) ∷ []
short n h = rw (lt-ltb n 10)

long : (n : ℕ) → 10 ≤ n → number_word n ≡ (48 + n / 10) ∷ (48 + n % 10) ∷ []
long n h = rw (le-ltb n 10)

pub first-digit : (n : ℕ) → n < 100 → get_or (number_word n) 0 0 ≤ 57
first-digit n h = by (ltb n 10) refl
  where
    by : (b : Bool) → ltb n 10 ≡ b → get_or (number_word n) 0 0 ≤ 57
    by true e = rw e (omega (arith, ltb-true n 10 e))
    by false e = rw e (omega arith)

-- A byte that is a digit.
pub digit : (a : ℕ) → is_digit a ≡ true → (48 ≤ a) × (a ≤ 57)
digit a e = let h = and-true (leb 48 a) (leb a 57) e in (leb-true 48 a h.0, leb-true a 57 h.1)

is-digit : (a : ℕ) → 48 ≤ a → a ≤ 57 → is_digit a ≡ true
is-digit a l h = rw (le-leb 48 a, le-leb a 57)

-- The digits of the number that a word says are the word.
one-digits : (a : ℕ) (b : Bool) → is_digit a ≡ b → one_digit a < 100 → a ∷ [] ≡ number_word (one_digit a)
one-digits a true e h =
    let d = digit a e in
    let back : 48 + (a - 48) ≡ a = omega arith in
    rw e (cc (short (a - 48) (omega arith)))
one-digits a false e h = absurd (omega (arith, rw e at h))

two-digits : (a b : ℕ) (t : Bool) → is_digit a && (ltb 48 a && is_digit b) ≡ t → two_digits a b < 100 → a ∷ b ∷ [] ≡ number_word (two_digits a b)
two-digits a b true e h =
    let d = and-true (is_digit a) _ e in
    let f = and-true (ltb 48 a) _ d.1 in
    let i = digit a d.0 in
    let j = digit b f.1 in
    let l = ltb-true 48 a f.0 in
    let high : 48 + (10 * (a - 48) + (b - 48)) / 10 ≡ a = omega arith in
    let low : 48 + (10 * (a - 48) + (b - 48)) % 10 ≡ b = omega arith in
    rw e (cc (long (10 * (a - 48) + (b - 48)) (omega arith)))
two-digits a b false e h = absurd (omega (arith, rw e at h))

pub value-digits : (w : Word) → value_of w < 100 → w ≡ number_word (value_of w)
value-digits [] h = absurd (omega arith)
value-digits (a ∷ []) h = one-digits a (is_digit a) refl h
value-digits (a ∷ b ∷ []) h = two-digits a b _ refl h
value-digits (a ∷ b ∷ c ∷ w) h =
    let e = ne_eqb (length (a ∷ b ∷ c ∷ w)) 1 (λ z. omega arith) in
    let f = ne_eqb (length (a ∷ b ∷ c ∷ w)) 2 (λ z. omega arith) in
    absurd (omega (arith, rw (e, f) at h))

-- The number that the digits of a number say is the number.
pub digits-value : (n : ℕ) → n < 100 → value_of (number_word n) ≡ n
digits-value n h = by (ltb n 10) refl
  where
    by : (b : Bool) → ltb n 10 ≡ b → value_of (number_word n) ≡ n
    by true e = let l = ltb-true n 10 e in rw (e, is-digit (48 + n) (omega arith) (omega arith)) (omega arith)
    by false e =
        let l = ltb-false n 10 e in
        let high = is-digit (48 + n / 10) (omega arith) (omega arith) in
        let low = is-digit (48 + n % 10) (omega arith) (omega arith) in
        rw (e, high, lt-ltb 48 (48 + n / 10) (omega arith), low) (omega arith)
