-- Tests of all or some numbers below a bound, and what a passed test says.
-- Assumes nothing.
use mathlib.Core.Path.{◌≡◌}
use mathlib.Core.Bool.{Bool, true, false, ◌&&◌, ◌||◌}
use mathlib.Core.Logic.{◌⊎◌, inl, inr}
use Prim.Native.Nat.{ℕ, zero, suc, ◌<◌}
use native.Mathlib.Decide.{ℕ_discrete}
use native.Mathlib.Omega.{arith}
use Rattle.base.proofs.Truths.{not-true, and-true, or-true}

abbrev pub all_below : ℕ → (ℕ → Bool) → Bool
all_below zero test = true
all_below (suc n) test = test n && all_below n test

abbrev pub some_below : ℕ → (ℕ → Bool) → Bool
some_below zero test = false
some_below (suc n) test = test n || some_below n test

pub all-below : (n : ℕ) (test : ℕ → Bool) → all_below n test ≡ true → (k : ℕ) → k < n → test k ≡ true
all-below zero test e k h = absurd (omega arith)
all-below (suc n) test e k h = by (all-below n test) (and-true (test n) (all_below n test) e) (ℕ_discrete k n)
  where
    by : (all_below n test ≡ true → (k : ℕ) → k < n → test k ≡ true) → (test n ≡ true) × (all_below n test ≡ true) → Dec (k ≡ n) → test k ≡ true
    by before t (yes p) = rw p t.0
    by before t (no q) = before t.1 k (omega arith)

pub some-below : (n : ℕ) (test : ℕ → Bool) → some_below n test ≡ true → (k : ℕ) × (k < n) × (test k ≡ true)
some-below zero test e = not-true e
some-below (suc n) test e = by (some-below n test) (or-true (test n) (some_below n test) e)
  where
    by : (some_below n test ≡ true → (k : ℕ) × (k < n) × (test k ≡ true)) → (test n ≡ true) ⊎ (some_below n test ≡ true)
        → (k : ℕ) × (k < suc n) × (test k ≡ true)
    by before (inl p) = (n, omega arith, p)
    by before (inr q) = let h = before q in (h.0, omega (arith, h.1), h.2)
