-- From sheets to what C reads: where compiling returns 0, the output begins with the table that the laws of compiling, of explaining and of the board
-- speak of.
-- Assumes nothing.
use mathlib.Core.Path.{◌≡◌, sym, subst}
use mathlib.Core.List.{List}
use Prim.Native.Nat.{ℕ, ◌+◌, ◌*◌, ◌≤◌}
use native.Mathlib.Omega.{arith}
use lib.ListN.{length}
use Rattle.base.specs.Fields.{field_in}
use Rattle.table.specs.Answer.{Answer, accepted, refused}
use Rattle.making.specs.Making.{short, makes}
use Rattle.trace.specs.declared.Mode.{Mode}
use Rattle.limits.specs.Limits.{largest}
use Rattle.syntax.specs.Faults.{number_of}
use Rattle.syntax.specs.declared.Fault.{Fault}
use Rattle.syntax.specs.declared.Fault.TheVariants.{Length, Counts, Areas, UnknownKindAt, WrongFieldAt, WrongTypeAt, BoundAt}
use Rattle.syntax.specs.declared.Sheet.{Sheet}
use Rattle.syntax.specs.declared.NodeType.{NodeType}
use Rattle.compiler.specs.Compiles.{values, rows, Builds, stops, Compiles, faulted, passes}
use Rattle.compiler.specs.Calling.{CompilesInto}
use Rattle.compiler_laws.proofs.Calls.{table-size, table-in-output}
use Rattle.lemondarts_laws.specs.Session.{number_in, value_in}
use Rattle.lemondarts.specs.Compiling.{CompileReturns}
use Rattle.lemondarts_laws.specs.TextTables.{table_in}
use Rattle.lemondarts_laws.proofs.Answers.{Says}
use Rattle.lemondarts_laws.proofs.Spots.{compile-says}

-- a refusal has another number than 0
fault-some : (f : Fault) → 1 ≤ number_of f
fault-some Length = omega arith
fault-some Counts = omega arith
fault-some Areas = omega arith
fault-some (UnknownKindAt n) = omega arith
fault-some (WrongFieldAt n) = omega arith
fault-some (WrongTypeAt n) = omega arith
fault-some (BoundAt n) = omega arith

stop-some : {mode : Mode} {sheet : Sheet} {types : List NodeType} {number spot : ℕ} {written : List ℕ} → Builds mode sheet types largest (refused number spot) written → 1 ≤ number
stop-some (stops tables n number h built p (values over)) = omega arith
stop-some (stops tables n number h built p (rows few over)) = omega arith

compiled-some : {sheet : List ℕ} {number spot : ℕ} {written : List ℕ} → Compiles sheet largest (refused number spot) written → 1 ≤ number
compiled-some (faulted f e) = fault-some f
compiled-some (passes mode read types j x t b) = stop-some b

refused-some : {sheet out work values out' work' values' : List ℕ} {number spot : ℕ} → CompilesInto sheet out work values (refused number spot) out' work' values'
    → 1 ≤ number
refused-some (short n) = omega arith
refused-some (makes a answer written c) = compiled-some c

module _ {sheet out work values out' work' values' : List ℕ} where
  -- so a 0 is a table, and its fields say how long it is
  made : (returned : ℕ) (answer : Answer) → CompilesInto sheet out work values answer out' work' values' → Says answer returned → number_in returned ≡ 0
      → Compiles sheet largest (accepted (value_in returned) (field_in 2 returned) (field_in 3 returned)) (table_in returned out')
  made returned (refused number spot) c s zero = absurd (omega (arith, refused-some c, s.0))
  made returned (accepted type actions count) c s zero =
      let (table, compiled, front) = table-in-output c in
      let same : table_in returned out' ≡ table = rw (s.is-rows, s.is-actions) front in
      rw (same, s.is-type, s.is-actions, s.is-rows) compiled

  module _ {returned : ℕ} (r : CompileReturns sheet out work values returned out' work' values') (zero : number_in returned ≡ 0) where
    -- Where compiling returns 0, the output begins with the table of the sheet, with the type, the actions and the rows that the number says.
    pub compile-makes-table : Compiles sheet largest (accepted (value_in returned) (field_in 2 returned) (field_in 3 returned)) (table_in returned out')
    compile-makes-table = made returned r.answer r.compiles (subst (Says r.answer) (sym r.number) (compile-says r.compiles)) zero

    -- It is as long as these say.
    pub compile-table-size : length (table_in returned out') ≡ 8 + field_in 3 returned * field_in 2 returned
    compile-table-size = table-size sheet (table_in returned out') compile-makes-table
