-- Splitting classes by a finer relation: there are no fewer classes, and where there are no more, states of one class are related.
-- Assumes nothing.
use mathlib.Core.Path.{◌≡◌, sym, ap, subst, ◌∙◌}
use mathlib.Core.List.{List}
use Prim.Native.Nat.{ℕ, ◌≤◌, ◌<◌}
use native.Mathlib.Decide.{ℕ_discrete, dec_lt}
use native.Mathlib.Omega.{arith}
use Rattle.automaton.specs.Partition.{class_of, first_of, Partition, Over}
use Rattle.refinement.specs.Refining.{Classified}
use Rattle.automaton.proofs.Classes.{Equivalence, class-related, related-class}
use Rattle.automaton.proofs.Splits.{update, update_same, update_other, over-extend, over-not-partition}

-- every state in one class
pub one-classified : (states : ℕ) (classes : List ℕ) → 0 < states → ((s : ℕ) → s < states → class_of classes s ≡ 0) → Classified states 1 classes
one-classified states classes h f = record { pick = λ c. 0; below = below; inside = λ c l. h; own = own }
  where
    below : (s : ℕ) → s < states → class_of classes s < 1
    below s l = omega (arith, f s l)

    own : (c : ℕ) → c < 1 → class_of classes 0 ≡ c
    own c l = omega (arith, f 0 h)

pub partition-classified : {R : ℕ → ℕ → Type 0} {states count : ℕ} {classes firsts : List ℕ} → Partition R states count classes firsts → Classified states count classes
partition-classified {firsts = firsts} p = record { pick = first_of firsts; below = p.below; inside = p.inside; own = p.own }

module _ {R : ℕ → ℕ → Type 0} {states count finer : ℕ} {classes split firsts : List ℕ} (eq : Equivalence R)
    (coarser : (s t : ℕ) → R s t → class_of classes s ≡ class_of classes t) (k : Classified states count classes)
    (p : Partition R states finer split firsts) where
  -- picks of two classes are not related
  apart : (f : ℕ → ℕ) → ((c : ℕ) → c < count → class_of classes (f c) ≡ c) → (c d : ℕ) → c < d → d < count → R (f c) (f d) → ⊥
  apart f own c d l h r = omega (arith, coarser (f c) (f d) r, own c (omega arith), own d h)

  pub no-fewer : count ≤ finer
  no-fewer =
      elim (dec_lt finer count) [
        | yes h ↦ absurd (over-not-partition p eq finer (over h) (omega arith))
        | no q ↦ omega arith
      ]
    where
      over : finer < count → Over R states finer
      over h =
          record {
            pick = k.pick;
            inside = λ c l. k.inside c (omega arith);
            apart = λ c d l m. apart k.pick k.own c d l (omega arith);
          }

  pub unchanged : finer ≤ count → (s t : ℕ) → s < states → t < states → class_of classes s ≡ class_of classes t → R s t
  unchanged h s t hs ht e =
      elim (ℕ_discrete (class_of split s) (class_of split t)) [
        | yes q ↦ class-related p eq s t hs ht q
        | no q ↦ absurd (over-not-partition p eq count (over q) h)
      ]
    where
      -- s for its own class
      f : ℕ → ℕ
      f = update k.pick (class_of classes s) s

      inside : (c : ℕ) → c < count → f c < states
      inside c l =
          elim (ℕ_discrete c (class_of classes s)) [
            | yes q ↦ rw (q, update_same k.pick (class_of classes s) s) hs
            | no q ↦ rw (update_other k.pick (class_of classes s) s c q) (k.inside c l)
          ]

      own : (c : ℕ) → c < count → class_of classes (f c) ≡ c
      own c l =
          elim (ℕ_discrete c (class_of classes s)) [
            | yes q ↦ ap (class_of classes) (ap f q ∙ update_same k.pick (class_of classes s) s) ∙ sym q
            | no q ↦ rw (update_other k.pick (class_of classes s) s c q) (k.own c l)
          ]

      -- t is related to no pick
      fresh : (class_of split s ≡ class_of split t → ⊥) → (c : ℕ) → c < count → R (f c) t → ⊥
      fresh q c l r =
          let g : c ≡ class_of classes s = omega (arith, coarser (f c) t r, own c l) in
          q (related-class p eq s t hs ht
          (subst (λ (x : ℕ). R x t) (ap f g ∙ update_same k.pick (class_of classes s) s) r))

      over : (class_of split s ≡ class_of split t → ⊥) → Over R states count
      over q = over-extend R states f count t inside ht (apart f own) (fresh q)
