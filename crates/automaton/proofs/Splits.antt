-- Laws of partitions of the states by a relation, and of more than `limit` states no two of which are related.
-- Assumes nothing.
use mathlib.Core.Path.{◌≡◌, refl, sym, subst, ◌∙◌}
use mathlib.Core.List.{List}
use Prim.Native.Nat.{ℕ, suc, ◌≤◌, ◌<◌}
use native.Mathlib.Decide.{ℕ_discrete}
use native.Mathlib.Omega.{arith}
use Rattle.automaton.specs.Partition.{class_of, first_of, Partition, Over}
use Rattle.base.proofs.Pigeon.{pigeon}
use Rattle.automaton.proofs.Classes.{Equivalence, class-related}

-- f with x at i
choose : {P : Type 0} → Dec P → ℕ → ℕ → ℕ
choose (yes p) x y = x
choose (no q) x y = y

pub update : (ℕ → ℕ) → ℕ → ℕ → ℕ → ℕ
update f i x c = choose (ℕ_discrete c i) x (f c)

pub update_same : (f : ℕ → ℕ) (i x : ℕ) → update f i x i ≡ x
unfolding update choose
update_same f i x = go (ℕ_discrete i i)
  where
    go : (d : Dec (i ≡ i)) → choose d x (f i) ≡ x
    go (yes p) = refl
    go (no q) = absurd (q refl)

pub update_other : (f : ℕ → ℕ) (i x c : ℕ) → (c ≡ i → ⊥) → update f i x c ≡ f c
unfolding update choose
update_other f i x c n = go (ℕ_discrete c i)
  where
    go : (d : Dec (c ≡ i)) → choose d x (f c) ≡ f c
    go (yes p) = absurd (n p)
    go (no q) = refl

module _ (R : ℕ → ℕ → Type 0) (states : ℕ) where
  -- `limit` states, no two related, and one more that is related to none of them
  pub over-extend : (f : ℕ → ℕ) (limit s : ℕ)
      → ((c : ℕ) → c < limit → f c < states)
      → s < states
      → ((c d : ℕ) → c < d → d < limit → R (f c) (f d) → ⊥)
      → ((c : ℕ) → c < limit → R (f c) s → ⊥)
      → Over R states limit
  over-extend f limit s inside new apart fresh = record { pick = update f limit s; inside = within; apart = unrelated }
    where
      within : (c : ℕ) → c ≤ limit → update f limit s c < states
      within c h =
          elim (ℕ_discrete c limit) [
            | yes p ↦ rw (p, update_same f limit s) new
            | no q ↦ rw (update_other f limit s c q) (inside c (omega arith))
          ]

      unrelated : (c d : ℕ) → c < d → d ≤ limit → R (update f limit s c) (update f limit s d) → ⊥
      unrelated c d l h =
          rw (update_other f limit s c (omega arith))
          (elim (ℕ_discrete d limit) [
            | yes p ↦ rw (p, update_same f limit s) (fresh c (omega arith))
            | no q ↦ rw (update_other f limit s d q) (apart c d l (omega arith))
          ])

-- where states of one number are related, no more states are pairwise not related than there are numbers
pub over-not-numbered : {R : ℕ → ℕ → Type 0} {states limit : ℕ} → Over R states limit
    → (count : ℕ) (f : ℕ → ℕ)
    → ((s : ℕ) → s < states → f s < count)
    → ((s t : ℕ) → s < states → t < states → f s ≡ f t → R s t)
    → count ≤ limit → ⊥
over-not-numbered {limit = limit} o count f below related h =
    let g = pigeon (suc limit) count (λ i j. f (o.pick i) ≡ j) hit clash in
    omega arith
  where
    hit : (i : ℕ) → i < suc limit → (j : ℕ) × (j < count) × (f (o.pick i) ≡ j)
    hit i l = (f (o.pick i), below (o.pick i) (o.inside i (omega arith)), refl)

    clash : (i k j : ℕ) → i < k → k < suc limit → j < count → f (o.pick i) ≡ j → f (o.pick k) ≡ j → ⊥
    clash i k j l m n a b = o.apart i k l (omega arith) (related (o.pick i) (o.pick k) (o.inside i (omega arith)) (o.inside k (omega arith)) (a ∙ sym b))

-- nor than there are classes
pub over-not-partition : {R : ℕ → ℕ → Type 0} {states count : ℕ} {classes firsts : List ℕ}
    → Partition R states count classes firsts → Equivalence R → (limit : ℕ) → Over R states limit → count ≤ limit → ⊥
over-not-partition {count = count} {classes} p eq limit o = over-not-numbered o count (class_of classes) p.below (class-related p eq)

-- nor than there are
pub over-not-all : {R : ℕ → ℕ → Type 0} {states : ℕ} → Equivalence R → Over R states states → ⊥
over-not-all {R} {states} eq o = over-not-numbered o states (λ s. s) (λ s h. h) (λ s t h g e. subst (λ (x : ℕ). R s x) e (eq.reflexive s)) (omega arith)

-- A relation that says the same of states has the same partitions.
module _ (R Q : ℕ → ℕ → Type 0) (states : ℕ) (to : (s t : ℕ) → s < states → t < states → R s t → Q s t) where
  pub over-map : (limit : ℕ) → Over Q states limit → Over R states limit
  over-map limit o = record { pick = o.pick; inside = o.inside; apart = unrelated }
    where
      unrelated : (c d : ℕ) → c < d → d ≤ limit → R (o.pick c) (o.pick d) → ⊥
      unrelated c d l h r = o.apart c d l h (to (o.pick c) (o.pick d) (o.inside c (omega arith)) (o.inside d h) r)

  pub partition-map : ((s t : ℕ) → s < states → t < states → Q s t → R s t)
      → (count : ℕ) (classes firsts : List ℕ)
      → Partition R states count classes firsts
      → Partition Q states count classes firsts
  partition-map from count classes firsts p =
      record {
        below = p.below;
        inside = p.inside;
        own = p.own;
        first = p.first;
        ordered = p.ordered;
        member = related;
        apart = unrelated;
      }
    where
      related : (s : ℕ) → s < states → Q (first_of firsts (class_of classes s)) s
      related s h = to (first_of firsts (class_of classes s)) s (p.inside (class_of classes s) (p.below s h)) h (p.member s h)

      unrelated : (c d : ℕ) → c < d → d < count → Q (first_of firsts c) (first_of firsts d) → ⊥
      unrelated c d l h r = p.apart c d l h (from (first_of firsts c) (first_of firsts d) (p.inside c (omega arith)) (p.inside d h) r)
