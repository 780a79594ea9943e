-- Nodes one behind the other, numbered from n on, each with a property of its number and itself.
-- Assumes nothing.
use mathlib.Core.Path.{◌≡◌}
use mathlib.Core.List.{List, [], ◌∷◌, ◌++◌}
use Prim.Native.Nat.{ℕ, zero, suc, ◌+◌, ◌<◌}
use native.Mathlib.Omega.{arith}
use lib.ListN.{length, get_or}
use Rattle.syntax.specs.declared.Node.{Node}
use Rattle.syntax.specs.declared.Node.TheVariants.{True}

abbrev pub Each : (ℕ → Node → Type 0) → ℕ → List Node → Type 0
Each Q n [] = Unit {0}
Each Q n (x ∷ l) = Q n x × Each Q (suc n) l

module _ (Q : ℕ → Node → Type 0) where
  pub joined : (n : ℕ) (a b : List Node) → Each Q n a → Each Q (n + length a) b → Each Q n (a ++ b)
  joined n [] b p q = let z : n + 0 ≡ n = omega arith in rw z at q
  joined n (x ∷ a) b p q = let z : n + suc (length a) ≡ suc n + length a = omega arith in (p.0, joined (suc n) a b p.1 (rw z at q))

  pub front : (n : ℕ) (a b : List Node) → Each Q n (a ++ b) → Each Q n a
  front n [] b p = tt
  front n (x ∷ a) b p = (p.0, front (suc n) a b p.1)

  pub back : (n : ℕ) (a b : List Node) → Each Q n (a ++ b) → Each Q (n + length a) b
  back n [] b p = let z : n + 0 ≡ n = omega arith in rw z p
  back n (x ∷ a) b p = let z : n + suc (length a) ≡ suc n + length a = omega arith in rw z (back (suc n) a b p.1)

  pub each_at : (n : ℕ) (l : List Node) → Each Q n l → (i : ℕ) → i < length l → Q (n + i) (get_or l i True)
  each_at n [] p i h = absurd (omega arith)
  each_at n (x ∷ l) p zero h = let z : n + 0 ≡ n = omega arith in rw z p.0
  each_at n (x ∷ l) p (suc i) h = let z : n + suc i ≡ suc n + i = omega arith in rw z (each_at (suc n) l p.1 i (omega arith))

  pub each_from : (n : ℕ) (l : List Node) → ((i : ℕ) → i < length l → Q (n + i) (get_or l i True)) → Each Q n l
  each_from n [] f = tt
  each_from n (x ∷ l) f = (let z : n + 0 ≡ n = omega arith in rw z at (f 0 (omega arith)), each_from (suc n) l rest)
    where
      rest : (i : ℕ) → i < length l → Q (suc n + i) (get_or l i True)
      rest i h = let z : n + suc i ≡ suc n + i = omega arith in rw z at (f (suc i) (omega arith))
