-- Classes rise: they are numbered by their first members, so that no pass gives a state a lower class than it had, and a search for its class
-- begins at the class so far.
-- Assumes nothing.
use mathlib.Core.Path.{◌≡◌}
use mathlib.Core.List.{List}
use Prim.Native.Nat.{ℕ, zero, suc, ◌+◌, ◌≤◌, ◌<◌}
use native.Mathlib.Decide.{ℕ_discrete}
use native.Mathlib.Omega.{arith}
use lib.ListN.{length, set}
use lib.Seq.{get_or-set_same, get_or-set_other}
use Rattle.automaton.specs.Partition.{class_of, first_of, SameSignature, Partition, ClassFound, Searchable, RestrictedGrowth}

-- no class below that of s so far has its signature
pub none-lower : {actions count s : ℕ} {next classes firsts : List ℕ} → Searchable actions count s next classes firsts
    → (c : ℕ) → c < class_of classes s → SameSignature actions next classes (first_of firsts c) s → ⊥
none-lower p c h e = omega (arith, p.risen c (omega (arith, p.begun)), e.class)

-- one class for all
pub zeros-grow : (classes : List ℕ) → ((s : ℕ) → s < length classes → class_of classes s ≡ 0) → RestrictedGrowth classes
zeros-grow classes zeros = record { earlier = λ s c h l. absurd (omega (arith, zeros s h)) }

-- classes numbered by their first members
pub partition-grows : {R : ℕ → ℕ → Type 0} {count : ℕ} {classes firsts : List ℕ} → Partition R (length classes) count classes firsts → RestrictedGrowth classes
partition-grows {count = count} {classes} {firsts} p = record { earlier = earlier }
  where
    earlier : (s c : ℕ) → s < length classes → c < class_of classes s → (t : ℕ) × (t < s) × (class_of classes t ≡ c)
    earlier s c h l =
        (first_of firsts c, omega (arith, p.ordered c (class_of classes s) l (p.below s h), p.first s h), p.own c (omega (arith, p.below s h)))

-- The states below s, split anew: none has a lower class than it had.
pub record Risen (classes finer : List ℕ) (s : ℕ) : Type 0 where
  pub rises : (t : ℕ) → t < s → class_of classes t ≤ class_of finer t

pub risen-none : (classes finer : List ℕ) → Risen classes finer 0
risen-none classes finer = record { rises = λ t h. absurd (omega arith) }

module _ {R : ℕ → ℕ → Type 0} {classes finer firsts : List ℕ} {s count : ℕ} (p : Partition R s count finer firsts) (r : Risen classes finer s) where
  -- the first member of a class was in none above it
  pub first-risen : (c : ℕ) → c < count → class_of classes (first_of firsts c) ≤ c
  first-risen c h = omega (arith, r.rises (first_of firsts c) (p.inside c h), p.own c h)

  -- s was in one of the classes up to `count`
  pub class-begun : RestrictedGrowth classes → s < length classes → class_of classes s ≤ count
  class-begun g h = by (class_of classes s) (λ c. g.earlier s c h)
    where
      by : (n : ℕ) → ((c : ℕ) → c < n → (t : ℕ) × (t < s) × (class_of classes t ≡ c)) → n ≤ count
      by zero f = omega arith
      by (suc n) f = let t = f n (omega arith) in omega (arith, r.rises t.0 t.1, p.below t.0 t.1)

  -- s was in none above the class found
  pub found-risen : {actions : ℕ} {next : List ℕ} {c : ℕ} → ClassFound actions next classes firsts count s c → class_of classes s ≤ c
  found-risen {c = c} found = omega (arith, first-risen c found.within, found.here.class)

  -- so s has a class that is not lower
  pub risen-more : {c : ℕ} → class_of classes s ≤ c → s < length finer → Risen classes (set finer s c) (s + 1)
  risen-more {c = c} own room = record { rises = rises }
    where
      rises : (t : ℕ) → t < s + 1 → class_of classes t ≤ class_of (set finer s c) t
      rises t h =
          elim (ℕ_discrete t s) [
            | yes e ↦ rw (e, get_or-set_same finer s c 255 room) own
            | no q ↦ rw (get_or-set_other finer s t c 255 (omega arith)) (r.rises t (omega arith))
          ]
