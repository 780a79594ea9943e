-- What a board answers to a list of actions, given to it one by one. Events have the newest first.
-- Assumes nothing.
use Rattle.std.specs.Prelude.{◌≡◌, List, [], ◌∷◌, ◌++◌, ℕ, length}
use Rattle.view.specs.Steps.{permitted, denied, act}
use Rattle.runs.specs.Events.{Event, event, rule, on_place}

-- Actions, each permitted.
pub data AllPermitted : List Event → Type 0 where
  none : AllPermitted []
  more : {events : List Event} (action set : ℕ) → AllPermitted events → AllPermitted (event (act action) (permitted set) ∷ events)

-- Of the actions that these later events ask for, the first so many are each permitted, and the next one is denied by the place that holds the table.
pub record DeniedAfter (table : List ℕ) (later events : List Event) (count : ℕ) : Type 0 where
  pub before : List Event
  pub permitted-each : AllPermitted before
  pub counted : length before ≡ count
  pub action : ℕ
  pub place : ℕ
  pub since : List ℕ
  pub holds : on_place (before ++ events) place ≡ rule table since
  pub afterwards : List Event
  pub all : later ≡ afterwards ++ (event (act action) (denied place) ∷ before)
