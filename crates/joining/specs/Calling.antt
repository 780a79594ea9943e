-- The public call: its answer in the numbers of docs/FORMATS.md, "Refusals", and every byte of the lent areas.
-- Assumes nothing.
use Rattle.std.specs.Prelude.{List, ℕ, Result, Ok, Err}
use Rattle.limits.specs.Limits.{largest}
use Rattle.table.specs.declared.Header.{Header}
use Rattle.table.specs.Answer.{Answer, accepted, refused, mode_number}
use Rattle.machine_rows.specs.declared.OverLimit.{OverLimit}
use Rattle.machine_rows.specs.declared.OverLimit.TheVariants.{Values, Rows}
use Rattle.making.specs.Making.{MakesInto}
use Rattle.joining.specs.Joins.{Joins}
use Rattle.joining.specs.declared.JoinError.{JoinError}
use Rattle.joining.specs.declared.JoinError.TheVariants.{ShortArea, WrongCount, Malformed, NotCanonical, WatchedTable, OtherActions, TooManyValues, TooManyRows}

-- A joined table's header, or the refusal's number.
abbrev pub answer_of : Result Header JoinError → Answer
answer_of (Ok header) = accepted (mode_number header.mode) header.actions header.rows
answer_of (Err ShortArea) = refused 14 0
answer_of (Err WrongCount) = refused 2 0
answer_of (Err Malformed) = refused 10 0
answer_of (Err NotCanonical) = refused 11 0
answer_of (Err WatchedTable) = refused 34 0
answer_of (Err OtherActions) = refused 23 0
answer_of (Err TooManyValues) = refused 8 0
answer_of (Err TooManyRows) = refused 9 0

-- Why tables are not joined whose machine is over a limit.
abbrev pub over_of : OverLimit → JoinError
over_of Values = TooManyValues
over_of Rows = TooManyRows

-- The public call: the answer, and every byte of the lent areas.
abbrev pub JoinsInto : (count : ℕ) (input out work values : List ℕ) → Answer → List ℕ → List ℕ → List ℕ → Type 0
JoinsInto count input out work values = MakesInto (Joins count input largest) out work values
