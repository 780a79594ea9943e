-- Sequences of actions, machines that read them, and when two states are alike.
-- Assumes nothing.
use Rattle.std.specs.Prelude.{◌≡◌, Bool, true, false, List, [], ◌∷◌, ℕ, ◌<◌}

-- A sequence: a list of numbers below the number of actions, of any length.
abbrev pub Sequence : ℕ → List ℕ → Type 0
Sequence actions [] = Unit {0}
Sequence actions (a ∷ w) = (a < actions) × Sequence actions w

-- What reading an action does: it trips (the verdict is settled for good), or goes on to a next state.
pub data Move (Y : Type 0) : Type 0 where
  trip : Move Y
  go : Y → Move Y

-- The transition function of a deterministic machine with states Y.
abbrev pub Step : Type 0 → Type 0
Step Y = Y → ℕ → Move Y

-- A trip stays, whatever comes behind it.
abbrev pub after : {Y : Type 0} → Move Y → (Y → Move Y) → Move Y
after trip f = trip
after (go v) f = f v

-- A sequence is read action by action.
abbrev pub run : {Y : Type 0} → Step Y → Move Y → List ℕ → Move Y
run step m [] = m
run step m (a ∷ w) = run step (after m (λ v. step v a)) w

abbrev pub tripped : {Y : Type 0} → Move Y → Bool
tripped trip = true
tripped (go v) = false

-- Whether the sequence, read from the state, has tripped.
abbrev pub trips : {Y : Type 0} → Step Y → Y → List ℕ → Bool
trips step v w = tripped (run step (go v) w)

-- Alike (Myhill-Nerode equivalence), also of states of two machines: every sequence read from both trips in both or in neither.
pub record Alike {X Y : Type 0} (actions : ℕ) (f : Step X) (u : X) (g : Step Y) (v : Y) : Type 0 where
  pub same : (w : List ℕ) → Sequence actions w → trips f u w ≡ trips g v w
