-- The step of Before: b is judged up to and with the action that fulfils a, and then released.
-- Assumes nothing.
use mathlib.Core.Path.{◌≡◌, refl}
use mathlib.Core.Bool.{cond}
use mathlib.Core.List.{List, [], ◌∷◌}
use Prim.Native.Nat.{ℕ}
use Rattle.trace.specs.Trace.{Move, trip, go, run}
use Rattle.trace.proofs.Laws.{run-trip}
use Rattle.policy.specs.Operators.{first, up_to}
use Rattle.policy.specs.Rule.{before-r}
use Rattle.policy.specs.Value.{Part, row_of, rows, released, before_move, step_of}
use Rattle.policy.specs.Closed.{answer}
use Rattle.policy.specs.Right.{RightStep}
use Rattle.policy.proofs.Residual.{up-to-later}
use Rattle.policy.proofs.Answer.{trips_from, run-still}

module _ (f g : Part) where
  -- once b has tripped, so has the whole
  tripped-run : (w : List ℕ) (m : Move ℕ)
      → run (step_of (before-r f g)) trip w
      ≡ answer (trips_from g trip (up_to (first (trips_from f m) w) w))
      (cond (trips_from f m w) released (rows (row_of (run f m w)) (row_of (run g trip w))))
  tripped-run w m = rw (run-trip (step_of (before-r f g)) w, run-trip g (up_to (first (trips_from f m) w) w)) refl

  before-run : (w : List ℕ) (m n : Move ℕ)
      → run (step_of (before-r f g)) (before_move m n) w
      ≡ answer (trips_from g n (up_to (first (trips_from f m) w) w))
      (cond (trips_from f m w) released (rows (row_of (run f m w)) (row_of (run g n w))))
  before-run [] trip trip = refl
  before-run [] trip (go r) = refl
  before-run [] (go q) trip = refl
  before-run [] (go q) (go r) = refl
  before-run (a ∷ w) trip trip = tripped-run (a ∷ w) trip
  before-run (a ∷ w) (go q) trip = tripped-run (a ∷ w) (go q)
  before-run (a ∷ w) trip (go r) = rw (run-still (step_of (before-r f g)) released (λ a. refl) w, run-trip f w) refl
  before-run (a ∷ w) (go q) (go r) = rw (up-to-later (first (trips_from f (f q a)) w) a w) (before-run w (f q a) (g r a))

  pub before-right : RightStep (before-r f g)
  before-right = record { right = λ w. before-run w (go 0) (go 0) }
