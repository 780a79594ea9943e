-- What a joined table is: the conjunction of its tables.
-- Assumes nothing.
use Rattle.std.specs.Prelude.{◌≡◌, true, false, List, ◌↔◌, ℕ, ◌<◌}
use Rattle.trace.specs.Trace.{Sequence, trips}
use Rattle.table.specs.Table.{type_of, actions_of, rows_of, row_step, Accepted, verdict}
use Rattle.joining.specs.Tables.{table_at, tables_in}
use Rattle.joining.specs.Meaning.{some_trips}
use Rattle.joining_laws.specs.Answers.{Joinable}

-- All of the tables are satisfied by a sequence.
abbrev pub AllSatisfied : (count : ℕ) (input w : List ℕ) → Type 0
AllSatisfied count input w = (i : ℕ) → i < count → verdict (table_at input i) w ≡ true

-- At least one of them denies it.
pub record SomeDenies (count : ℕ) (input w : List ℕ) : Type 0 where
  pub at : ℕ
  pub inside : at < count
  pub denies : verdict (table_at input at) w ≡ false

-- The same sequences satisfy all tables of the one input and all of the other.
pub record SameJoinsSatisfied (actions count : ℕ) (input : List ℕ) (count' : ℕ) (input' : List ℕ) : Type 0 where
  pub same : (w : List ℕ) → Sequence actions w → AllSatisfied count input w ↔ AllSatisfied count' input' w

-- A table is satisfied exactly where all tables of the input are.
pub record SatisfiedWhere (actions : ℕ) (table : List ℕ) (count : ℕ) (input : List ℕ) : Type 0 where
  pub same : (w : List ℕ) → Sequence actions w → (verdict table w ≡ true) ↔ AllSatisfied count input w

-- What the table of a join is, with the counts of the answer.
pub record JoinedTable (count : ℕ) (input : List ℕ) (type actions rows : ℕ) (written : List ℕ) : Type 0 where
  pub accepted : Accepted written
  pub enforced : type_of written ≡ 1
  pub type-is : type ≡ 1
  pub actions-are : actions_of written ≡ actions
  pub rows_are : rows_of written ≡ rows
  pub joinable : Joinable count input actions
  pub reads : (w : List ℕ) → Sequence actions w → trips (row_step written) 0 w ≡ some_trips (tables_in count input) w
