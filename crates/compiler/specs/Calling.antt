-- The public call: its answer in the numbers of docs/FORMATS.md, "Refusals", and every byte of the lent areas.
-- Assumes nothing.
use Rattle.std.specs.Prelude.{List, ℕ, Result, Ok, Err}
use Rattle.limits.specs.declared.Limits.{Limits}
use Rattle.limits.specs.Limits.{largest}
use Rattle.table.specs.declared.Header.{Header}
use Rattle.table.specs.Answer.{Answer, accepted, refused, mode_number}
use Rattle.making.specs.Making.{MakesInto, WritesTo}
use Rattle.compiler.specs.Refusals.{number_of_refusal, spot_of_refusal}
use Rattle.compiler.specs.Compiles.{Compiles}
use Rattle.compiler.specs.declared.CompileError.{CompileError}
use Rattle.compiler.specs.declared.CompileError.TheVariants.{ShortArea, Refused}

abbrev pub answer_of : Result Header CompileError → Answer
answer_of (Ok header) = accepted (mode_number header.mode) header.actions header.rows
answer_of (Err ShortArea) = refused 14 0
answer_of (Err (Refused r)) = refused (number_of_refusal r) (spot_of_refusal r)

-- The public call: the answer, and every byte of the lent areas.
abbrev pub CompilesInto : (bytes out work values : List ℕ) → Answer → List ℕ → List ℕ → List ℕ → Type 0
CompilesInto bytes out work values = MakesInto (Compiles bytes largest) out work values

-- What compiling with any limits gives: the answer, and the table's bytes at the front of the output.
abbrev pub CompilesTo : List ℕ → (limits : Limits) → Answer → (before behind : List ℕ) → Type 0
CompilesTo bytes limits = WritesTo (Compiles bytes limits)
