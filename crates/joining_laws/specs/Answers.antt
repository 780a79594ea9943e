-- When joining gives each answer, in its place of the order of checks.
-- Assumes nothing.
use Rattle.std.specs.Prelude.{◌≡◌, List, [], ℕ, ◌<◌}
use Rattle.limits.specs.declared.Limits.{Limits}
use Rattle.joining.specs.Tables.{rest_at, table_at, tables_in, Unfit, FitBefore, AllOver, CountFits}
use Rattle.joining.specs.Meaning.{OverTuples, OverJoinedRows}

-- The count fits, and the first table that is not fit is refused by this number.
pub record FirstUnfit (count : ℕ) (input : List ℕ) (number : ℕ) : Type 0 where
  pub counted : CountFits count
  pub at : ℕ
  pub inside : at < count
  pub before : FitBefore input at
  pub unfit : Unfit (table_at input at) number

-- The count and every table are fit, and bytes are left over.
pub record LeftOver (count : ℕ) (input : List ℕ) : Type 0 where
  pub counted : CountFits count
  pub fit : FitBefore input count
  pub over : rest_at input count ≡ [] → ⊥

-- The input is so many fit tables, and nothing else.
pub record TablesFit (count : ℕ) (input : List ℕ) : Type 0 where
  pub counted : CountFits count
  pub fit : FitBefore input count
  pub whole : rest_at input count ≡ []

-- And all of them have so many actions: checks 2, 10, 11, 34 and 23 pass.
pub record Joinable (count : ℕ) (input : List ℕ) (actions : ℕ) : Type 0 where
  pub tables : TablesFit count input
  pub each : AllOver actions count input

-- The tables differ in their number of actions.
pub record Mixed (count : ℕ) (input : List ℕ) : Type 0 where
  pub tables : TablesFit count input
  pub none : (actions : ℕ) → AllOver actions count input → ⊥

-- More tuples of rows than the limit.
pub record ManyTuples (count : ℕ) (input : List ℕ) (limits : Limits) : Type 0 where
  pub actions : ℕ
  pub joinable : Joinable count input actions
  pub over : OverTuples actions (tables_in count input) limits.values

-- No more tuples than the limit, and more rows.
pub record ManyJoinedRows (count : ℕ) (input : List ℕ) (limits : Limits) : Type 0 where
  pub actions : ℕ
  pub joinable : Joinable count input actions
  pub few : OverTuples actions (tables_in count input) limits.values → ⊥
  pub over : OverJoinedRows actions (tables_in count input) limits.rows

-- None of the refusals applies: the tables can be joined, inside both limits.
pub record JoinInsideLimits (count : ℕ) (input : List ℕ) (limits : Limits) : Type 0 where
  pub actions : ℕ
  pub joinable : Joinable count input actions
  pub few-tuples : OverTuples actions (tables_in count input) limits.values → ⊥
  pub few-rows : OverJoinedRows actions (tables_in count input) limits.rows → ⊥
