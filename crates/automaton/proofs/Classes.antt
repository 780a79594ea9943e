-- Laws of partitions: first members order the classes, state 0 is in class 0, and states have one class exactly when they are related.
-- Assumes nothing.
use mathlib.Core.Path.{◌≡◌, ap}
use mathlib.Core.List.{List}
use Prim.Native.Nat.{ℕ, ◌≤◌, ◌<◌}
use native.Mathlib.Decide.{ℕ_discrete, dec_lt}
use native.Mathlib.Omega.{arith}
use lib.ListN.{length, get_or-eq_default}
use Rattle.trace.proofs.Laws.{alike_refl, alike-sym, alike-trans}
use Rattle.automaton.specs.Machine.{transition, AlikeStates}
use Rattle.automaton.specs.Partition.{class_of, first_of, Partition}

pub record Equivalence (R : ℕ → ℕ → Type 0) : Type 0 where
  pub reflexive : (s : ℕ) → R s s
  pub symmetric : (s t : ℕ) → R s t → R t s
  pub transitive : (s t u : ℕ) → R s t → R t u → R s u

pub alike-equivalence : (mark actions : ℕ) (next : List ℕ) → Equivalence (AlikeStates mark actions next)
alike-equivalence mark actions next =
    record {
      reflexive = alike_refl actions (transition mark actions next);
      symmetric = λ s t e. alike-sym actions e;
      transitive = λ s t u d e. alike-trans actions d e;
    }

-- the mark, which is no state, has the class 255
pub mark-class : (classes : List ℕ) {states mark : ℕ} → length classes ≡ states → states ≤ mark → class_of classes mark ≡ 255
mark-class classes e h = get_or-eq_default classes 255 (omega arith)

module _ {R : ℕ → ℕ → Type 0} {states count : ℕ} {classes firsts : List ℕ} (pa : Partition R states count classes firsts) where
  -- an earlier first member, a lower class
  pub first-order : (c d : ℕ) → c < count → first_of firsts c < first_of firsts d → c < d
  first-order c d h l = elim (dec_lt c d) [ yes g ↦ g | no g ↦ elim (ℕ_discrete c d) [ yes e ↦ absurd (equal e) | no q ↦ absurd (above (omega arith)) ] ]
    where
      equal : c ≡ d → ⊥
      equal e = let p = ap (first_of firsts) e in omega arith

      above : d < c → ⊥
      above g = let p = pa.ordered d c g h in omega arith

  -- state 0 is in class 0
  pub class-zero : 0 < states → class_of classes 0 ≡ 0
  class-zero h = elim (ℕ_discrete (class_of classes 0) 0) [ yes e ↦ e | no q ↦ absurd (later (omega arith)) ]
    where
      later : 0 < class_of classes 0 → ⊥
      later l = let p = pa.ordered 0 (class_of classes 0) l (pa.below 0 h) in omega (arith, pa.first 0 h)

  module _ (eq : Equivalence R) where
    -- states of one class are related
    pub class-related : (s t : ℕ) → s < states → t < states → class_of classes s ≡ class_of classes t → R s t
    class-related s t h g e =
        eq.transitive s (first_of firsts (class_of classes s)) t
        (eq.symmetric (first_of firsts (class_of classes s)) s (pa.member s h))
        (rw e (pa.member t g))

    -- so are the first members of related states' classes
    firsts-related : (s t : ℕ) → s < states → t < states → R s t → R (first_of firsts (class_of classes s)) (first_of firsts (class_of classes t))
    firsts-related s t h g r =
        eq.transitive (first_of firsts (class_of classes s)) s (first_of firsts (class_of classes t)) (pa.member s h)
        (eq.transitive s t (first_of firsts (class_of classes t)) r (eq.symmetric (first_of firsts (class_of classes t)) t (pa.member t g)))

    -- related states have one class
    pub related-class : (s t : ℕ) → s < states → t < states → R s t → class_of classes s ≡ class_of classes t
    related-class s t h g r =
        elim (ℕ_discrete (class_of classes s) (class_of classes t)) [
          | yes e ↦ e
          | no q ↦ elim (dec_lt (class_of classes s) (class_of classes t)) [
            | yes l ↦ absurd (pa.apart (class_of classes s) (class_of classes t) l (pa.below t g) (firsts-related s t h g r))
            | no m ↦ absurd (pa.apart (class_of classes t) (class_of classes s) (omega arith) (pa.below s h) (firsts-related t s g h (eq.symmetric s t r)))
          ]
        ]
