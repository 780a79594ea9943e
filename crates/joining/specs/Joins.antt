-- What joining gives: one way out a line, in the order of docs/FORMATS.md, "The order of checks".
-- Assumes nothing.
use Rattle.std.specs.Prelude.{◌≡◌, List, [], ℕ, ◌≤◌, ◌<◌}
use Rattle.limits.specs.declared.Limits.{Limits}
use Rattle.automaton.specs.Minimal.{RowsOf}
use Rattle.table.specs.Answer.{Answer, accepted, refused}
use Rattle.making.specs.Making.{table_bytes}
use Rattle.joining.specs.Tables.{rest_at, table_at, tables_in, Unfit, FitBefore, AllOver, CountFits}
use Rattle.joining.specs.Meaning.{some_trips, OverTuples, OverJoinedRows}

-- What enforced tables over one list of actions give. The limits on tuples and rows are parameters. The list is the joined table's bytes, empty
-- for a refusal.
pub data Meets (tables : List (List ℕ)) (actions : ℕ) (limits : Limits) : Answer → List ℕ → Type 0 where
  -- 8: more tuples of rows than the limit occur
  many-tuples : OverTuples actions tables limits.values → Meets tables actions limits (refused 8 0) []
  -- 9: as many as the limit or fewer, and more rows than the limit are needed
  many-rows : (OverTuples actions tables limits.values → ⊥) → OverJoinedRows actions tables limits.rows → Meets tables actions limits (refused 9 0) []
  -- the table: inside both limits, enforced, with the rows of 'at least one of the tables trips'
  joins : (OverTuples actions tables limits.values → ⊥) → (rows : ℕ) (entries : List ℕ) → rows ≤ limits.rows → RowsOf actions (some_trips tables) rows entries
      → Meets tables actions limits (accepted 1 actions rows) (table_bytes 1 actions rows entries)

-- What joining `count` tables of an input gives.
pub data Joins (count : ℕ) (input : List ℕ) (limits : Limits) : Answer → List ℕ → Type 0 where
  -- 2: a count outside 2 to 8
  miscounted : (CountFits count → ⊥) → Joins count input limits (refused 2 0) []
  -- 10, 11 or 34 of the first table that is not fit
  unfit : CountFits count → (i number : ℕ) → i < count → FitBefore input i → Unfit (table_at input i) number → Joins count input limits (refused number 0) []
  -- 10: bytes left over
  left_over : CountFits count → FitBefore input count → (rest_at input count ≡ [] → ⊥) → Joins count input limits (refused 10 0) []
  -- 23: the tables differ in their number of actions
  mixed : CountFits count → FitBefore input count → rest_at input count ≡ [] → ((actions : ℕ) → AllOver actions count input → ⊥)
      → Joins count input limits (refused 23 0) []
  -- 8, 9 or the table
  meets : CountFits count → FitBefore input count → rest_at input count ≡ [] → (actions : ℕ) → AllOver actions count input → (answer : Answer) (written : List ℕ)
      → Meets (tables_in count input) actions limits answer written → Joins count input limits answer written
