-- The step of After: b starts on the action after the one that fulfils a.
-- Assumes nothing.
use mathlib.Core.Path.{◌≡◌, refl, ◌∙◌, ap}
use mathlib.Core.Bool.{false}
use mathlib.Core.List.{List, [], ◌∷◌}
use mathlib.Core.Option.{Option, none, some}
use Prim.Native.Nat.{ℕ}
use lib.ListN.{drop}
use Rattle.trace.specs.Trace.{Move, trip, go, run}
use Rattle.policy.specs.Operators.{one_more, first, following}
use Rattle.policy.specs.Rule.{after-r}
use Rattle.policy.specs.Value.{Part, part_trips, part_after, row_of, After, row, marked, after_move, remembered_after, step_of}
use Rattle.policy.specs.Closed.{answer}
use Rattle.policy.specs.Right.{RightStep}
use Rattle.policy.proofs.Answer.{trips_from, answer-with, run-with}

module _ (f g : Part) where
  -- what is remembered, where a stands at a move
  abbrev value : Option ℕ → Move ℕ → List ℕ → After
  value none m w = row (row_of m)
  value (some n) m w = marked (row_of (part_after g (drop n w)))

  later : (m : Move After) (r : Option ℕ) (n : Move ℕ) (a : ℕ) (w : List ℕ)
      → m ≡ answer (following false r (part_trips g) w) (value r n w)
      → m ≡ answer (following false (one_more r) (part_trips g) (a ∷ w)) (value (one_more r) n (a ∷ w))
  later m none n a w e = e
  later m (some i) n a w e = e

  started : (w : List ℕ) → run (step_of (after-r f g)) (go (marked 0)) w ≡ answer (part_trips g w) (marked (row_of (part_after g w)))
  started w = run-with marked (step_of (after-r f g)) g (λ r a. refl) w (go 0) ∙ answer-with marked (part_after g w)

  -- an action that fulfils a leaves b at its start, and any other moves a
  row-step : (q a : ℕ) (m : Move ℕ) → f q a ≡ m → step_of (after-r f g) (row q) a ≡ after_move m (go 0)
  row-step q a trip e = rw e refl
  row-step q a (go r) e = rw e refl

  after_run : (w : List ℕ) (m : Move ℕ)
      → run (step_of (after-r f g)) (after_move m (go 0)) w
      ≡ answer (following false (first (trips_from f m) w) (part_trips g) w) (value (first (trips_from f m) w) (run f m w) w)
  after_run [] trip = refl
  after_run [] (go q) = refl
  after_run (a ∷ w) trip = started (a ∷ w)
  after_run (a ∷ w) (go q) =
      ap (λ (m : Move After). run (step_of (after-r f g)) m w) (row-step q a (f q a) refl)
      ∙ later (run (step_of (after-r f g)) (after_move (f q a) (go 0)) w) (first (trips_from f (f q a)) w) (run f (f q a) w) a w (after_run w (f q a))

  same-value : (r : Option ℕ) (w : List ℕ) → value r (part_after f w) w ≡ remembered_after r f g w
  same-value none w = refl
  same-value (some n) w = refl

  pub after-right : RightStep (after-r f g)
  after-right = record { right = λ w. rw (same-value (first (part_trips f) w) w) at (after_run w (go 0)) }
