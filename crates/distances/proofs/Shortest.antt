-- The distance of a state is the length of the shortest sequence that trips from it.
-- Assumes nothing.
use mathlib.Core.Path.{◌≡◌, refl}
use mathlib.Core.Bool.{Bool, true, false}
use mathlib.Core.List.{List, [], ◌∷◌}
use Prim.Native.Nat.{ℕ, zero, suc, ◌+◌, ◌*◌, ◌≤◌, ◌<◌}
use native.Mathlib.Omega.{arith}
use lib.Arith.{digits_lt}
use lib.Dec.{eqb}
use lib.ListN.{length, get_or}
use borrow.Author.Tests.{eqb-true, eqb-false}
use Rattle.base.proofs.Truths.{not-true}
use Rattle.trace.specs.Trace.{Sequence, run, tripped, trips}
use Rattle.automaton.specs.Machine.{move_by, transition, Machine}
use Rattle.distances.specs.Distances.{Distances, Tripping}
use Rattle.distances.proofs.Measured.{behind, mark-far}

module _ (mark states actions : ℕ) (next far : List ℕ) (m : Machine mark states actions next) (paired : length far ≡ states) (d : Distances actions next far) where
  -- an entry: one more than the distance after it is no less than the state's own
  above : (s a : ℕ) → s < states → a < actions → get_or far s 0 ≤ suc (get_or far (get_or next (s * actions + a) mark) 0)
  above s a h g = omega (arith, d.not-above s (omega (arith, paired)) a g, behind mark states actions next far m paired d s a h g)

  -- No sequence that trips is shorter.
  pub distance_least : (w : List ℕ) (s : ℕ) → s < states → Sequence actions w → trips (transition mark actions next) s w ≡ true → get_or far s 0 ≤ length w
  distance_least [] s h q t = not-true t
  distance_least (a ∷ w) s h (g, q) t = by (λ x l. distance_least w x l q) (eqb (get_or next (s * actions + a) mark) mark) refl t
    where
      by : ((x : ℕ) → x < states → trips (transition mark actions next) x w ≡ true → get_or far x 0 ≤ length w)
          → (b : Bool) → eqb (get_or next (s * actions + a) mark) mark ≡ b
          → tripped (run (transition mark actions next) (move_by b (get_or next (s * actions + a) mark)) w) ≡ true → get_or far s 0 ≤ suc (length w)
      by ih true e t = omega (arith, above s a h g, mark-far mark states actions next far m paired d (get_or next (s * actions + a) mark) (eqb-true _ mark e))
      by ih false e t =
          omega (arith, above s a h g, ih (get_or next (s * actions + a) mark) (m.closed (s * actions + a) (digits_lt h g) (eqb-false _ mark e)) t)

  -- one more action in front
  in-front : (s a : ℕ) → s < states → a < actions → get_or far s 0 ≡ suc (get_or far (get_or next (s * actions + a) mark) 0)
      → ((x : ℕ) → x < states → get_or far x 0 < get_or far s 0 → Tripping mark actions next x (get_or far x 0)) → Tripping mark actions next s (get_or far s 0)
  in-front s a h g one ih = by (eqb (get_or next (s * actions + a) mark) mark) refl
    where
      by : (b : Bool) → eqb (get_or next (s * actions + a) mark) mark ≡ b → Tripping mark actions next s (get_or far s 0)
      by true e =
          record {
            sequence = a ∷ [];
            listed = (g, tt);
            trips-it = rw e;
            long = omega (arith, one, mark-far mark states actions next far m paired d (get_or next (s * actions + a) mark) (eqb-true _ mark e));
          }
      by false e =
          let w = ih (get_or next (s * actions + a) mark) (m.closed (s * actions + a) (digits_lt h g) (eqb-false _ mark e)) (omega (arith, one)) in
          record { sequence = a ∷ w.sequence; listed = (g, w.listed); trips-it = rw e w.trips-it; long = omega (arith, one, w.long) }

  there : (k s : ℕ) → get_or far s 0 < k → s < states → get_or far s 0 < 255 → Tripping mark actions next s (get_or far s 0)
  there zero s l h f = absurd (omega arith)
  there (suc k) s l h f =
      let n = d.not-below.nearer s (omega (arith, paired)) f in
      let e = behind mark states actions next far m paired d s n.0 h n.1 in
      let o = above s n.0 h n.1 in
      in-front s n.0 h n.1 (omega (arith, n.2)) (λ x g c. there k x (omega arith) g (omega arith))

  -- And where it is below 255, a sequence of this length trips.
  pub distance-reached : (s : ℕ) → s < states → get_or far s 0 < 255 → Tripping mark actions next s (get_or far s 0)
  distance-reached s h f = there (suc (get_or far s 0)) s (omega arith) h f
