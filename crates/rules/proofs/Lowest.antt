-- The lowest row of a set: trailing zeros find it, and `set & (set - 1)` is the set without it.
-- Assumes nothing.
use mathlib.Core.Path.{◌≡◌, refl, sym, ◌∙◌}
use Prim.Native.Nat.{ℕ, zero, suc, ◌-◌, ◌*◌, ◌/◌, ◌%◌, ◌^◌, ◌<◌}
use native.Mathlib.Nat.{pow-suc}
use native.Mathlib.Omega.{arith}
use lib.Bits.{bit_and, bit_or, and_step, or_step, and_self, or_zero_r}
use lib.Count.{count_trailing_zeros, under}
use Rattle.policy.specs.Value.{insert}

-- the set without its lowest row
abbrev pub cleared : ℕ → ℕ
cleared n = bit_and n (n - 1)

half : (x : ℕ) → x * 2 / 2 ≡ x
half x = omega arith

-- the lowest row of an even number is one above its half's
even : (n r : ℕ) → 0 < n → n % 2 ≡ 0 → n / 2 ≡ insert r (cleared (n / 2)) → n ≡ insert (suc r) (cleared n)
even n r h e ih = sym (rw (halves, pow-suc 2 r, doubled (cleared (n / 2)) (2 ^ r), ← ih) (omega arith))
  where
    doubled : (x y : ℕ) → bit_or (x * 2) (y * 2) ≡ bit_or x y * 2
    doubled x y = or_step (x * 2) (y * 2) ∙ rw (half x, half y) (omega arith)

    halves : cleared n ≡ cleared (n / 2) * 2
    halves =
        let below : (n - 1) / 2 ≡ n / 2 - 1 = omega arith in
        and_step n (n - 1) ∙ rw below (omega arith)

-- that of an odd number is 0
odd : (n : ℕ) → n % 2 ≡ 1 → n ≡ insert 0 (cleared n)
odd n e = sym (rw (halves, or_step (n / 2 * 2) 1, half (n / 2), or_zero_r (n / 2)) (omega arith))
  where
    halves : cleared n ≡ n / 2 * 2
    halves =
        let same : (n - 1) / 2 ≡ n / 2 = omega arith in
        and_step n (n - 1) ∙ rw (same, and_self (n / 2)) (omega arith)

-- a set is its lowest row and the set without it
pub lowest : (k n : ℕ) → 0 < n → n < 2 ^ k → (count_trailing_zeros k n < k) × (n ≡ insert (count_trailing_zeros k n) (cleared n))
unfolding count_trailing_zeros
lowest zero n h g = absurd (omega arith)
lowest (suc k) n h g = by (n % 2) refl (lowest k (n / 2))
  where
    by : (d : ℕ) → n % 2 ≡ d
        → (0 < n / 2 → n / 2 < 2 ^ k → (count_trailing_zeros k (n / 2) < k) × (n / 2 ≡ insert (count_trailing_zeros k (n / 2)) (cleared (n / 2))))
        → (under d (count_trailing_zeros k (n / 2)) < suc k) × (n ≡ insert (under d (count_trailing_zeros k (n / 2))) (cleared n))
    by zero e ih =
        let l = ih (omega arith) (omega (arith, pow-suc 2 k)) in
        (omega arith, even n (count_trailing_zeros k (n / 2)) h e l.1)
    by (suc d) e ih = (omega arith, odd n (omega arith))
