-- The number of an answer, case by case.
-- Assumes nothing.
use mathlib.Core.Path.{◌≡◌, sym, ◌∙◌, ap}
use Prim.Native.Nat.{ℕ}

pub number-case : {X : Type 0} (number : X → ℕ) (a b : X) (n : ℕ) → a ≡ b → n ≡ number b → n ≡ number a
number-case number a b n e h = h ∙ ap number (sym e)
