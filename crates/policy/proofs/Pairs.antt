-- The steps of the rules that keep both parts' moves: both, either.
-- Assumes nothing.
use mathlib.Core.Path.{◌≡◌, refl}
use mathlib.Core.Bool.{◌&&◌, ◌||◌}
use mathlib.Core.List.{List, [], ◌∷◌}
use Prim.Native.Nat.{ℕ}
use Rattle.trace.specs.Trace.{Move, trip, go, after, run, tripped}
use Rattle.policy.specs.Rule.{both_r, either_r}
use Rattle.policy.specs.Value.{Part, both_move, either_move, step_of}
use Rattle.policy.specs.Closed.{answer}
use Rattle.policy.specs.Right.{RightStep}

either-trip : (m : Move ℕ) → either_move m trip ≡ trip
either-trip trip = refl
either-trip (go q) = refl

module _ (f g : Part) where
  both-after : (m n : Move ℕ) (a : ℕ)
      → after (both_move m n) (λ v. step_of (both_r f g) v a) ≡ both_move (after m (λ q. f q a)) (after n (λ r. g r a))
  both-after trip trip a = refl
  both-after trip (go r) a = refl
  both-after (go q) n a = refl

  both_run : (w : List ℕ) (m n : Move ℕ)
      → run (step_of (both_r f g)) (both_move m n) w
      ≡ answer (tripped (run f m w) && tripped (run g n w)) (record { left = run f m w; right = run g n w })
  both_run [] trip trip = refl
  both_run [] trip (go r) = refl
  both_run [] (go q) n = refl
  both_run (a ∷ w) m n = rw (both-after m n a) (both_run w (after m (λ q. f q a)) (after n (λ r. g r a)))

  pub both_right : RightStep (both_r f g)
  both_right = record { right = λ w. both_run w (go 0) (go 0) }

  either-after : (m n : Move ℕ) (a : ℕ)
      → after (either_move m n) (λ v. step_of (either_r f g) v a) ≡ either_move (after m (λ q. f q a)) (after n (λ r. g r a))
  either-after trip n a = refl
  either-after (go q) trip a = rw (either-trip (f q a)) refl
  either-after (go q) (go r) a = refl

  either-run : (w : List ℕ) (m n : Move ℕ)
      → run (step_of (either_r f g)) (either_move m n) w
      ≡ answer (tripped (run f m w) || tripped (run g n w)) (record { left = run f m w; right = run g n w })
  either-run [] trip n = refl
  either-run [] (go q) trip = refl
  either-run [] (go q) (go r) = refl
  either-run (a ∷ w) m n = rw (either-after m n a) (either-run w (after m (λ q. f q a)) (after n (λ r. g r a)))

  pub either-right : RightStep (either_r f g)
  either-right = record { right = λ w. either-run w (go 0) (go 0) }
