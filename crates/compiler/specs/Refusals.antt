-- What the compiler refuses, in the numbers of docs/FORMATS.md, "Refusals".
-- Assumes nothing.
use Rattle.std.specs.Prelude.{ℕ}
use Rattle.machine_rows.specs.declared.OverLimit.{OverLimit}
use Rattle.machine_rows.specs.declared.OverLimit.TheVariants.{Values, Rows}
use Rattle.syntax.specs.Faults.{number_of, spot_of}
use Rattle.compiler.specs.declared.Refusal.{Refusal}
use Rattle.compiler.specs.declared.Refusal.TheVariants.{Faulty, TooManyValues, TooManyRows}

abbrev pub number_of_refusal : Refusal → ℕ
number_of_refusal (Faulty f) = number_of f
number_of_refusal (TooManyValues n) = 8
number_of_refusal (TooManyRows n) = 9

-- The node, 0 where there is none.
abbrev pub spot_of_refusal : Refusal → ℕ
spot_of_refusal (Faulty f) = spot_of f
spot_of_refusal (TooManyValues n) = n
spot_of_refusal (TooManyRows n) = n

-- The refusal of a node that is over a limit.
abbrev pub refusal_over : ℕ → OverLimit → Refusal
refusal_over n Values = TooManyValues n
refusal_over n Rows = TooManyRows n
