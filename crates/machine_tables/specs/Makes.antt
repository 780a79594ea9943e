-- The table of a machine on numbers: of any type, from any start, inside any limits.
-- Assumes nothing.
use Rattle.std.specs.Prelude.{List, [], ℕ, Result, Ok, Err, ◌≤◌, length}
use Rattle.trace.specs.Trace.{Step}
use Rattle.trace.specs.declared.Mode.{Mode}
use Rattle.limits.specs.declared.Limits.{Limits}
use Rattle.table.specs.Table.{largest_table}
use Rattle.table.specs.declared.Header.{Header}
use Rattle.table.specs.Answer.{Answer, accepted, refused, mode_number}
use Rattle.making.specs.Making.{table_bytes}
use Rattle.explore.specs.Explored.{OverReached}
use Rattle.machine_rows.specs.Machines.{OverStates, RowsFor}
use Rattle.machine_rows.specs.Builds.{Buildable}
use Rattle.machine_rows.specs.declared.Plan.{Plan}
use Rattle.machine_rows.specs.declared.OverLimit.{OverLimit}
use Rattle.machine_rows.specs.declared.OverLimit.TheVariants.{Values, Rows}

-- What a machine gives: 8, 9, or the table of its rows.
pub data MachineMakes (type actions : ℕ) (step : Step ℕ) (start : ℕ) (limits : Limits) : Answer → List ℕ → Type 0 where
  many-values : OverReached actions step start limits.values → MachineMakes type actions step start limits (refused 8 0) []
  many-states : (OverReached actions step start limits.values → ⊥) → OverStates actions step start limits.rows
      → MachineMakes type actions step start limits (refused 9 0) []
  makes-rows : (OverReached actions step start limits.values → ⊥) → (rows : ℕ) (entries : List ℕ) → RowsFor actions step start limits.rows rows entries
      → MachineMakes type actions step start limits (accepted type actions rows) (table_bytes type actions rows entries)

-- The same of a plan for a machine.
abbrev pub PlanMakes : Mode → Plan → (step : Step ℕ) (start : ℕ) → Answer → List ℕ → Type 0
PlanMakes mode plan step start = MachineMakes (mode_number mode) plan.actions step start plan.limits

-- The answer with its numbers.
abbrev pub answer_of : Result Header OverLimit → Answer
answer_of (Ok header) = accepted (mode_number header.mode) header.actions header.rows
answer_of (Err Values) = refused 8 0
answer_of (Err Rows) = refused 9 0

-- What making a table is lent: what building is, and room for any table.
pub record Makable (plan : Plan) (out work values : List ℕ) : Type 0 where
  pub buildable : Buildable plan work values
  pub output : largest_table ≤ length out
