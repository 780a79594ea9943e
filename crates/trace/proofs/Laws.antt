-- Laws of sequences and of alike states.
-- Assumes nothing.
use mathlib.Core.Path.{◌≡◌, refl, sym, ◌∙◌}
use mathlib.Core.Bool.{Bool, true, false}
use mathlib.Core.List.{List, [], ◌∷◌, ◌++◌}
use Prim.Native.Nat.{ℕ, ◌<◌}
use native.Mathlib.Omega.{arith}
use Rattle.trace.specs.Trace.{Sequence, Move, trip, go, Step, after, run, tripped, Alike}

-- `true` and `false` differ
pub not-both : {A : Type 0} → ◌≡◌ {A = Bool} true false → A
not-both e = absurd (let z : ◌≡◌ {A = ℕ} 0 1 = cc in omega arith)

pub run-trip : {Y : Type 0} (f : Step Y) (w : List ℕ) → run f trip w ≡ trip
run-trip f [] = refl
run-trip f (a ∷ w) = run-trip f w

pub run-append : {Y : Type 0} (f : Step Y) (m : Move Y) (v w : List ℕ) → run f m (v ++ w) ≡ run f (run f m v) w
run-append f m [] w = refl
run-append f m (a ∷ v) w = run-append f (after m (λ u. f u a)) v w

pub sequence-append : (actions : ℕ) (v w : List ℕ) → Sequence actions v → Sequence actions w → Sequence actions (v ++ w)
sequence-append actions [] w p q = q
sequence-append actions (a ∷ v) w p q = (p.0, sequence-append actions v w p.1 q)

-- Two moves are related when both trip, or both go on to related states.
abbrev pub Related : {X Y : Type 0} → (X → Y → Type 0) → Move X → Move Y → Type 0
Related R trip trip = Unit {0}
Related R trip (go v) = ⊥
Related R (go u) trip = ⊥
Related R (go u) (go v) = R u v

module _ {X Y : Type 0} (actions : ℕ) (f : Step X) (g : Step Y) where
  -- moves behind which every sequence trips in both or in neither
  related : (m : Move X) (n : Move Y)
      → ((w : List ℕ) → Sequence actions w → tripped (run f m w) ≡ tripped (run g n w))
      → Related (λ u v. Alike actions f u g v) m n
  related trip trip h = tt
  related trip (go v) h = not-both (h [] tt)
  related (go u) trip h = not-both (sym (h [] tt))
  related (go u) (go v) h = record { same = h }

  -- alike states have alike next states
  pub alike_next : {u : X} {v : Y} → Alike actions f u g v → (a : ℕ) → a < actions → Related (λ u v. Alike actions f u g v) (f u a) (g v a)
  alike_next {u} {v} e a h = related (f u a) (g v a) (λ w p. e.same (a ∷ w) (h, p))

  -- a bisimulation relates alike states alone
  module _ (R : X → Y → Type 0) (closed : (u : X) (v : Y) → R u v → (a : ℕ) → a < actions → Related R (f u a) (g v a)) where
    related-tripped : (m : Move X) (n : Move Y) → Related R m n → tripped m ≡ tripped n
    related-tripped trip trip r = refl
    related-tripped trip (go v) r = absurd r
    related-tripped (go u) trip r = absurd r
    related-tripped (go u) (go v) r = refl

    related-after : (a : ℕ) → a < actions → (m : Move X) (n : Move Y) → Related R m n → Related R (after m (λ u. f u a)) (after n (λ v. g v a))
    related-after a h trip trip r = tt
    related-after a h trip (go v) r = absurd r
    related-after a h (go u) trip r = absurd r
    related-after a h (go u) (go v) r = closed u v r a h

    bisimilar-runs : (w : List ℕ) → Sequence actions w → (m : Move X) (n : Move Y) → Related R m n → tripped (run f m w) ≡ tripped (run g n w)
    bisimilar-runs [] p m n r = related-tripped m n r
    bisimilar-runs (a ∷ w) p m n r = bisimilar-runs w p.1 (after m (λ u. f u a)) (after n (λ v. g v a)) (related-after a p.0 m n r)

    pub bisimilar : (u : X) (v : Y) → R u v → Alike actions f u g v
    bisimilar u v r = record { same = λ w p. bisimilar-runs w p (go u) (go v) r }

module _ (actions : ℕ) where
  pub alike_refl : {Y : Type 0} (f : Step Y) (v : Y) → Alike actions f v f v
  alike_refl f v = record { same = λ w p. refl }

  pub alike-sym : {X Y : Type 0} {f : Step X} {u : X} {g : Step Y} {v : Y} → Alike actions f u g v → Alike actions g v f u
  alike-sym e = record { same = λ w p. sym (e.same w p) }

  pub alike-trans : {Z X Y : Type 0} {f : Step Z} {t : Z} {g : Step X} {u : X} {h : Step Y} {v : Y}
      → Alike actions f t g u → Alike actions g u h v → Alike actions f t h v
  alike-trans d e = record { same = λ w p. d.same w p ∙ e.same w p }
