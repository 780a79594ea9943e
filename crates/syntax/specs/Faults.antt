-- A fault as its number and spot (docs/FORMATS.md, "Refusals"): the node for 4 to 7, else 0.
-- Assumes nothing.
use Rattle.std.specs.Prelude.{Result, ℕ}
use Rattle.syntax.specs.declared.Fault.{Fault}
use Rattle.syntax.specs.declared.Fault.TheVariants.{Length, Counts, Areas, UnknownKindAt, WrongFieldAt, WrongTypeAt, BoundAt}
use Rattle.syntax.specs.declared.TypeError.{TypeError}
use Rattle.syntax.specs.declared.TypeError.TheVariants.{Unfit, TooLong}

-- What checks find: no fault, or the first one.
abbrev pub Judged : Type 0
Judged = Result (Unit {0}) Fault

abbrev pub number_of : Fault → ℕ
number_of Length = 1
number_of Counts = 2
number_of Areas = 3
number_of (UnknownKindAt n) = 4
number_of (WrongFieldAt n) = 5
number_of (WrongTypeAt n) = 6
number_of (BoundAt n) = 7

abbrev pub spot_of : Fault → ℕ
spot_of Length = 0
spot_of Counts = 0
spot_of Areas = 0
spot_of (UnknownKindAt n) = n
spot_of (WrongFieldAt n) = n
spot_of (WrongTypeAt n) = n
spot_of (BoundAt n) = n

-- The fault of a node that has no type.
abbrev pub type_fault : TypeError → ℕ → Fault
type_fault Unfit n = WrongTypeAt n
type_fault TooLong n = BoundAt n
