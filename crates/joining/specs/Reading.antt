-- What reading the tables finds, and what stands then in the slots of the work area.
-- Assumes nothing.
use Rattle.std.specs.Prelude.{◌≡◌, List, ℕ, Option, Some, None, Result, Ok, Err, ◌≤◌, ◌<◌, length, get_or, drop}
use Rattle.table.specs.Table.{table_length, front_table, entries_of}
use Rattle.table.specs.Answer.{refused}
use Rattle.rules.specs.Rules.{slot_at}
use Rattle.joining.specs.Tables.{rest_at, table_at, Fit, Unfit, FitBefore, AllOver}
use Rattle.joining.specs.Calling.{answer_of}
use Rattle.joining.specs.declared.JoinError.{JoinError}

-- A table that is not fit, and the error with the number of its refusal.
pub record RefusedBy (table : List ℕ) (error : JoinError) : Type 0 where
  pub number : ℕ
  pub unfit : Unfit table number
  pub says : answer_of (Err error) ≡ refused number 0

-- The table at the front: it is fit and as long as its header gives, or it is refused.
pub record FitFront (bytes : List ℕ) (size : ℕ) : Type 0 where
  pub fit : Fit (front_table bytes)
  pub sized : size ≡ table_length bytes
  pub inside : size ≤ length bytes

abbrev pub FrontChecked : List ℕ → Result ℕ JoinError → Type 0
FrontChecked bytes (Ok size) = FitFront bytes size
FrontChecked bytes (Err error) = RefusedBy (front_table bytes) error

-- All tables: they are fit, and what stands behind them begins at `end`; or the first that is not is refused.
pub record AllFit (count : ℕ) (input : List ℕ) (end : ℕ) : Type 0 where
  pub fit : FitBefore input count
  pub inside : end ≤ length input
  pub behind : drop end input ≡ rest_at input count

pub record FirstRefused (count : ℕ) (input : List ℕ) (error : JoinError) : Type 0 where
  pub at : ℕ
  pub below : at < count
  pub earlier : FitBefore input at
  pub refuses : RefusedBy (table_at input at) error

abbrev pub AllChecked : (count : ℕ) → List ℕ → Result ℕ JoinError → Type 0
AllChecked count input (Ok end) = AllFit count input end
AllChecked count input (Err error) = FirstRefused count input error

-- A slot holds the rows of a table, and 255 behind them.
pub record SlotHolds (slot table : List ℕ) : Type 0 where
  pub entry : (k : ℕ) → get_or slot k 255 ≡ get_or (entries_of table) k 255

-- The tables have one number of actions, and each slot holds the table of its number; or they differ.
abbrev pub LaidOut : (count : ℕ) → List ℕ → Option ℕ → List ℕ → Type 0
LaidOut count input (Some actions) work = AllOver actions count input × ((i : ℕ) → i < count → SlotHolds (slot_at work i) (table_at input i))
LaidOut count input None work = (actions : ℕ) → AllOver actions count input → ⊥

-- A number of actions that tables have.
pub record Acting (actions : ℕ) : Type 0 where
  pub low : 1 ≤ actions
  pub high : actions ≤ 16
