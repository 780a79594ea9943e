-- Runs: what a board holds when it is used only through its calls, apart from how an area holds it.
-- Assumes nothing.
use Rattle.std.specs.Prelude.{◌≡◌, true, List, [], ◌∷◌, ℕ, ◌<◌}
use Rattle.trace.specs.Trace.{Sequence, trip, go, run}
use Rattle.table.specs.Table.{type_of, actions_of, row_step, Accepted}
use Rattle.places.specs.Places.{taken}
use Rattle.places.specs.declared.Case.{Case}
use Rattle.places.specs.declared.Case.TheVariants.{Empty, Enforced, Watched, Fulfilled}
use Rattle.view.specs.View.{View, empty_view, Change, view_after}
use Rattle.view.specs.Steps.{Call, Reply, CallStep}
use Rattle.runs.specs.Events.{Event, event, PlaceState, nothing, rule}

-- A call with a number of places above every taken one, where the area is long enough and the board can be: so 14 and 25 ask nothing.
pub record StepOn (places : ℕ) (view : View) (call : Call) (reply : Reply) (change : Change) : Type 0 where
  pub above : (i : ℕ) → taken (view.case i) ≡ true → i < places
  pub step : CallStep (Unit {0}) (Unit {0}) places view call reply change

-- These events, the newest first, lead from an empty view to this one. Each call has a number of places of its own.
pub data Run : List Event → View → Type 0 where
  start : Run [] empty_view
  called : {places : ℕ} {events : List Event} {view : View} {call : Call} {reply : Reply} {change : Change}
      → Run events view → StepOn places view call reply change → Run (event call reply ∷ events) (view_after change view)

-- The case of a table after a sequence: its row, by type, or fulfilled. An enforced rule on a board has never tripped.
pub data CaseAfter (table since : List ℕ) : Case → Type 0 where
  at-enforced : (row : ℕ) → type_of table ≡ 1 → run (row_step table) (go 0) since ≡ go row → CaseAfter table since (Enforced row)
  at-watched : (row : ℕ) → type_of table ≡ 2 → run (row_step table) (go 0) since ≡ go row → CaseAfter table since (Watched row)
  at-fulfilled : type_of table ≡ 2 → run (row_step table) (go 0) since ≡ trip → CaseAfter table since Fulfilled

-- A place with a rule: its accepted table is held, and its case is that after the actions that it has read.
pub record Keeps (stored table since : List ℕ) (case : Case) : Type 0 where
  pub accepted : Accepted table
  pub stands : stored ≡ table
  pub sequence : Sequence (actions_of table) since
  pub after : CaseAfter table since case

abbrev pub PlaceIs : List ℕ → PlaceState → Case → Type 0
PlaceIs stored nothing case = case ≡ Empty
PlaceIs stored (rule table since) case = Keeps stored table since case

-- What a board holds is as the events say.
pub record StateIs (on : ℕ → PlaceState) (view : View) : Type 0 where
  pub each : (i : ℕ) → PlaceIs (view.table i) (on i) (view.case i)
  pub one : (i j : ℕ) (table other since since' : List ℕ) → on i ≡ rule table since → on j ≡ rule other since' → actions_of table ≡ actions_of other
