-- A partition of the states below s grows by the state s, which joins a class or begins one.
-- Assumes nothing.
use mathlib.Core.Path.{◌≡◌}
use mathlib.Core.List.{List}
use Prim.Native.Nat.{ℕ, ◌+◌, ◌≤◌, ◌<◌}
use native.Mathlib.Decide.{ℕ_discrete}
use native.Mathlib.Nat.{not-suc-le-zero}
use native.Mathlib.Omega.{arith}
use lib.ListN.{length, set}
use lib.Seq.{get_or-set_same, get_or-set_other}
use Rattle.automaton.specs.Partition.{class_of, first_of, Partition, Over}
use Rattle.automaton.proofs.Splits.{over-extend}

module _ (R : ℕ → ℕ → Type 0) (s count : ℕ) (classes firsts : List ℕ) (p : Partition R s count classes firsts) where
  module _ (c : ℕ) (room : s < length classes) where
    class-new : class_of (set classes s c) s ≡ c
    class-new = get_or-set_same classes s c 255 room

    class-kept : (t : ℕ) → t < s → class_of (set classes s c) t ≡ class_of classes t
    class-kept t h = get_or-set_other classes s t c 255 (omega arith)

  -- s joins class c
  pub joins : (c : ℕ) → s < length classes → c < count → R (first_of firsts c) s → Partition R (s + 1) count (set classes s c) firsts
  joins c room h r =
      record { below = below; inside = inside; own = own; first = first; ordered = p.ordered; member = member; apart = p.apart }
    where
      below : (t : ℕ) → t < s + 1 → class_of (set classes s c) t < count
      below t l =
          elim (ℕ_discrete t s) [
            | yes e ↦ rw (e, class-new c room) h
            | no q ↦ rw (class-kept c room t (omega arith)) (p.below t (omega arith))
          ]

      inside : (d : ℕ) → d < count → first_of firsts d < s + 1
      inside d l = omega (arith, p.inside d l)

      own : (d : ℕ) → d < count → class_of (set classes s c) (first_of firsts d) ≡ d
      own d l = rw (class-kept c room (first_of firsts d) (p.inside d l)) (p.own d l)

      first : (t : ℕ) → t < s + 1 → first_of firsts (class_of (set classes s c) t) ≤ t
      first t l =
          elim (ℕ_discrete t s) [
            | yes e ↦ rw (e, class-new c room) (omega (arith, p.inside c h))
            | no q ↦ rw (class-kept c room t (omega arith)) (p.first t (omega arith))
          ]

      member : (t : ℕ) → t < s + 1 → R (first_of firsts (class_of (set classes s c) t)) t
      member t l =
          elim (ℕ_discrete t s) [
            | yes e ↦ rw (e, class-new c room) r
            | no q ↦ rw (class-kept c room t (omega arith)) (p.member t (omega arith))
          ]

  -- s begins class `count`
  pub begins : s < length classes
      → count < length firsts
      → R s s
      → ((c : ℕ) → c < count → R (first_of firsts c) s → ⊥)
      → Partition R (s + 1) (count + 1) (set classes s count) (set firsts count s)
  begins room listed r fresh =
      record { below = below; inside = inside; own = own; first = first; ordered = ordered; member = member; apart = apart }
    where
      first-new : first_of (set firsts count s) count ≡ s
      first-new = get_or-set_same firsts count s 0 listed

      first-kept : (c : ℕ) → c < count → first_of (set firsts count s) c ≡ first_of firsts c
      first-kept c h = get_or-set_other firsts count c s 0 (omega arith)

      below : (t : ℕ) → t < s + 1 → class_of (set classes s count) t < count + 1
      below t l =
          elim (ℕ_discrete t s) [
            | yes e ↦ rw (e, class-new count room) (omega arith)
            | no q ↦ rw (class-kept count room t (omega arith)) (omega (arith, p.below t (omega arith)))
          ]

      inside : (c : ℕ) → c < count + 1 → first_of (set firsts count s) c < s + 1
      inside c l =
          elim (ℕ_discrete c count) [
            | yes e ↦ rw (e, first-new) (omega arith)
            | no q ↦ rw (first-kept c (omega arith)) (omega (arith, p.inside c (omega arith)))
          ]

      own : (c : ℕ) → c < count + 1 → class_of (set classes s count) (first_of (set firsts count s) c) ≡ c
      own c l =
          elim (ℕ_discrete c count) [
            | yes e ↦ rw (e, first-new) (class-new count room)
            | no q ↦ rw (first-kept c (omega arith), class-kept count room (first_of firsts c) (p.inside c (omega arith))) (p.own c (omega arith))
          ]

      first : (t : ℕ) → t < s + 1 → first_of (set firsts count s) (class_of (set classes s count) t) ≤ t
      first t l =
          elim (ℕ_discrete t s) [
            | yes e ↦ rw (e, class-new count room, first-new) (omega arith)
            | no q ↦ rw (class-kept count room t (omega arith), first-kept (class_of classes t) (p.below t (omega arith))) (p.first t (omega arith))
          ]

      ordered : (c d : ℕ) → c < d → d < count + 1 → first_of (set firsts count s) c < first_of (set firsts count s) d
      ordered c d l h =
          rw (first-kept c (omega arith))
          (elim (ℕ_discrete d count) [
            | yes e ↦ rw (e, first-new) (p.inside c (omega arith))
            | no q ↦ rw (first-kept d (omega arith)) (p.ordered c d l (omega arith))
          ])

      member : (t : ℕ) → t < s + 1 → R (first_of (set firsts count s) (class_of (set classes s count) t)) t
      member t l =
          elim (ℕ_discrete t s) [
            | yes e ↦ rw (e, class-new count room, first-new) r
            | no q ↦ rw (class-kept count room t (omega arith), first-kept (class_of classes t) (p.below t (omega arith))) (p.member t (omega arith))
          ]

      apart : (c d : ℕ) → c < d → d < count + 1 → R (first_of (set firsts count s) c) (first_of (set firsts count s) d) → ⊥
      apart c d l h =
          rw (first-kept c (omega arith))
          (elim (ℕ_discrete d count) [
            | yes e ↦ rw (e, first-new) (fresh c (omega arith))
            | no q ↦ rw (first-kept d (omega arith)) (p.apart c d l (omega arith))
          ])

  -- s would begin one class too many
  pub exceeds : (states : ℕ) → s < states → ((c : ℕ) → c < count → R (first_of firsts c) s → ⊥) → Over R states count
  exceeds states h fresh = over-extend R states (first_of firsts) count s within h p.apart fresh
    where
      within : (c : ℕ) → c < count → first_of firsts c < states
      within c l = omega (arith, p.inside c l)

-- no state yet, and no class
pub none_yet : (R : ℕ → ℕ → Type 0) (classes firsts : List ℕ) → Partition R 0 0 classes firsts
none_yet R classes firsts =
    record {
      below = λ s h. absurd (not-suc-le-zero h);
      inside = λ c h. absurd (not-suc-le-zero h);
      own = λ c h. absurd (not-suc-le-zero h);
      first = λ s h. absurd (not-suc-le-zero h);
      ordered = λ c d l h. absurd (not-suc-le-zero h);
      member = λ s h. absurd (not-suc-le-zero h);
      apart = λ c d l h. absurd (not-suc-le-zero h);
    }
