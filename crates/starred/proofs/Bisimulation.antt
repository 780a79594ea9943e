-- A computed test that two states are alike, which explores the pairs of states met together, and one that they are not.
-- Assumes nothing.
use mathlib.Core.Path.{◌≡◌}
use mathlib.Core.Bool.{Bool, true, false, cond, ◌&&◌, ◌||◌}
use mathlib.Core.List.{List, [], ◌∷◌, ◌++◌}
use mathlib.Core.Logic.{◌⊎◌, inl, inr}
use Prim.Native.Nat.{ℕ, zero, suc, ◌<◌}
use lib.Dec.{eqb}
use borrow.Author.Tests.{eqb-true}
use Rattle.base.proofs.Truths.{not-true, and-true, or-true}
use Rattle.trace.specs.Trace.{Move, trip, go, Step, Alike}
use Rattle.trace.proofs.Laws.{Related, bisimilar, alike_next}
use Rattle.starred.proofs.Tests.{all_below, some_below, all-below, some-below}

-- f 0 ++ f 1 ++ .. , n of them
abbrev pub gather : {X : Type 0} → ℕ → (ℕ → List X) → List X
gather zero f = []
gather (suc n) f = gather n f ++ f n

module _ {X : Type 0} (same : X → X → Bool) where
  abbrev member : X → List X → Bool
  member x [] = false
  member x (y ∷ ys) = same x y || member x ys

  -- What is reached from `todo`, in the order met, after `seen`; at most `fuel` elements are looked at.
  abbrev explore : (fuel : ℕ) → (X → List X) → (seen todo : List X) → List X
  explore zero next seen todo = seen
  explore (suc n) next seen [] = seen
  explore (suc n) next seen (x ∷ todo) =
      explore n next (cond (member x seen) seen (seen ++ (x ∷ []))) (cond (member x seen) todo (todo ++ next x))

  -- What is reached from x, x first. Where 400 elements are too few, the tests below fail.
  abbrev pub reach : (X → List X) → X → List X
  reach next x = explore 400 next [] (x ∷ [])

abbrev Couple : Type 0
Couple = ℕ × ℕ

abbrev same_couple : Couple → Couple → Bool
same_couple p q = eqb p.0 q.0 && eqb p.1 q.1

abbrev coupled : Move ℕ → Move ℕ → List Couple
coupled trip m = []
coupled (go u) trip = []
coupled (go u) (go v) = (u, v) ∷ []

-- two moves both trip, or go on to a pair of the list
abbrev matched : List Couple → Move ℕ → Move ℕ → Bool
matched pairs trip trip = true
matched pairs trip (go v) = false
matched pairs (go u) trip = false
matched pairs (go u) (go v) = member same_couple (u, v) pairs

module _ (actions : ℕ) (f g : Step ℕ) where
  abbrev closed_at : List Couple → ℕ → ℕ → Bool
  closed_at pairs u v = all_below actions (λ a. matched pairs (f u a) (g v a))

  abbrev closed_all : List Couple → List Couple → Bool
  closed_all pairs [] = true
  closed_all pairs (p ∷ ps) = closed_at pairs p.0 p.1 && closed_all pairs ps

  -- the pairs hold this one and are closed under every action
  abbrev bisimulation : List Couple → ℕ → ℕ → Bool
  bisimulation pairs u v = member same_couple (u, v) pairs && closed_all pairs pairs

  abbrev together : ℕ → ℕ → List Couple
  together u v = reach same_couple (λ p. gather actions (λ a. coupled (f p.0 a) (g p.1 a))) (u, v)

  abbrev pub alike_test : ℕ → ℕ → Bool
  alike_test u v = bisimulation (together u v) u v

  module _ (pairs : List Couple) where
    closed-member : (ps : List Couple) → closed_all pairs ps ≡ true → (u v : ℕ) → member same_couple (u, v) ps ≡ true → closed_at pairs u v ≡ true
    closed-member [] e u v m = not-true m
    closed-member (p ∷ ps) e u v m =
        by (closed-member ps) (and-true (closed_at pairs p.0 p.1) (closed_all pairs ps) e)
        (or-true (same_couple (u, v) p) (member same_couple (u, v) ps) m)
      where
        by : (closed_all pairs ps ≡ true → (u v : ℕ) → member same_couple (u, v) ps ≡ true → closed_at pairs u v ≡ true)
            → (closed_at pairs p.0 p.1 ≡ true) × (closed_all pairs ps ≡ true)
            → (same_couple (u, v) p ≡ true) ⊎ (member same_couple (u, v) ps ≡ true) → closed_at pairs u v ≡ true
        by before c (inl s) =
            let h = and-true (eqb u p.0) (eqb v p.1) s in
            rw (eqb-true u p.0 h.0, eqb-true v p.1 h.1) c.0
        by before c (inr t) = before c.1 u v t

    abbrev Listed : ℕ → ℕ → Type 0
    Listed u v = member same_couple (u, v) pairs ≡ true

    matched-related : (m n : Move ℕ) → matched pairs m n ≡ true → Related Listed m n
    matched-related trip trip e = tt
    matched-related trip (go v) e = not-true e
    matched-related (go u) trip e = not-true e
    matched-related (go u) (go v) e = e

    bisimulation-alike : (u v : ℕ) → bisimulation pairs u v ≡ true → Alike actions f u g v
    bisimulation-alike u v e =
        bisimilar actions f g Listed
        (λ s t r a h. matched-related (f s a) (g t a) (all-below actions (λ a. matched pairs (f s a) (g t a)) (closed-member pairs b.1 s t r) a h))
        u v b.0
      where
        b : Listed u v × (closed_all pairs pairs ≡ true)
        b = and-true (member same_couple (u, v) pairs) (closed_all pairs pairs) e

  pub alike-sound : (u v : ℕ) → alike_test u v ≡ true → Alike actions f u g v
  alike-sound u v e = bisimulation-alike (together u v) u v e

  -- A sequence of at most n actions trips in one and not in the other.
  abbrev differ_moves : (ℕ → ℕ → Bool) → Move ℕ → Move ℕ → Bool
  differ_moves differ trip trip = false
  differ_moves differ trip (go v) = true
  differ_moves differ (go u) trip = true
  differ_moves differ (go u) (go v) = differ u v

  abbrev pub differ_test : ℕ → ℕ → ℕ → Bool
  differ_test zero u v = false
  differ_test (suc n) u v = some_below actions (λ a. differ_moves (differ_test n) (f u a) (g v a))

  pub differ-sound : (n : ℕ) (u v : ℕ) → differ_test n u v ≡ true → Alike actions f u g v → ⊥
  differ-sound zero u v e s = not-true e
  differ-sound (suc n) u v e s =
      by (differ-sound n) (some-below actions (λ a. differ_moves (differ_test n) (f u a) (g v a)) e)
    where
      moves : ((u v : ℕ) → differ_test n u v ≡ true → Alike actions f u g v → ⊥) → (k m : Move ℕ) → differ_moves (differ_test n) k m ≡ true
          → Related (λ u v. Alike actions f u g v) k m → ⊥
      moves before trip trip d r = not-true d
      moves before trip (go y) d r = r
      moves before (go x) trip d r = r
      moves before (go x) (go y) d r = before x y d r

      by : ((u v : ℕ) → differ_test n u v ≡ true → Alike actions f u g v → ⊥)
          → (a : ℕ) × (a < actions) × (differ_moves (differ_test n) (f u a) (g v a) ≡ true) → ⊥
      by before h = moves before (f u h.0) (g v h.0) h.2 (alike_next actions f g s h.0 h.1)
