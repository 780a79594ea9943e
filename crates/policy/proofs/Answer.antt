-- A machine that answers: laws of `answer`, and of a machine whose trip or value is that of a part.
-- Assumes nothing.
use mathlib.Core.Path.{◌≡◌, refl}
use mathlib.Core.Bool.{Bool, true, false}
use mathlib.Core.List.{List, [], ◌∷◌}
use Prim.Native.Nat.{ℕ}
use Rattle.trace.specs.Trace.{Move, trip, go, Step, after, run, tripped}
use Rattle.policy.specs.Operators.{Property}
use Rattle.policy.specs.Value.{Part, row_of, go_with}
use Rattle.policy.specs.Closed.{answer}

-- the sequences that trip a part from a move on
abbrev pub trips_from : Part → Move ℕ → Property
trips_from f m w = tripped (run f m w)

-- a part's move answers with its row, wrapped or not
pub answer-row : (m : Move ℕ) → m ≡ answer (tripped m) (row_of m)
answer-row trip = refl
answer-row (go r) = refl

pub answer-with : {Y : Type 0} (wrap : ℕ → Y) (m : Move ℕ) → go_with wrap m ≡ answer (tripped m) (wrap (row_of m))
answer-with wrap trip = refl
answer-with wrap (go r) = refl

pub answer-tripped : {Y : Type 0} (b : Bool) (v : Y) → tripped (answer b v) ≡ b
answer-tripped true v = refl
answer-tripped false v = refl

-- a machine that moves as a part does, from the wrapped rows on, answers as the part does
pub run-with : {Y : Type 0} (wrap : ℕ → Y) (step : Step Y) (g : Part)
    → ((r a : ℕ) → step (wrap r) a ≡ go_with wrap (g r a))
    → (w : List ℕ) (m : Move ℕ) → run step (go_with wrap m) w ≡ go_with wrap (run g m w)
run-with wrap step g h [] m = refl
run-with wrap step g h (a ∷ w) m = rw (moved m) (run-with wrap step g h w (after m (λ r. g r a)))
  where
    moved : (m : Move ℕ) → after (go_with wrap m) (λ v. step v a) ≡ go_with wrap (after m (λ r. g r a))
    moved trip = refl
    moved (go r) = h r a

-- a machine that stays where it is
pub run-still : {Y : Type 0} (step : Step Y) (v : Y) → ((a : ℕ) → step v a ≡ go v) → (w : List ℕ) → run step (go v) w ≡ go v
run-still step v h [] = refl
run-still step v h (a ∷ w) = rw (h a) (run-still step v h w)
