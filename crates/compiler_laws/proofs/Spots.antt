-- What a refusal of compiling names: a number below 10, and a node as its spot.
-- Assumes nothing.
use mathlib.Core.List.{List}
use Prim.Native.Nat.{ℕ, ◌<◌}
use native.Mathlib.Omega.{arith}
use Rattle.trace.specs.declared.Mode.{Mode}
use Rattle.limits.specs.declared.Limits.{Limits}
use Rattle.table.specs.Answer.{refused}
use Rattle.typing.specs.Typed.{SoundSheet}
use Rattle.syntax.specs.declared.Sheet.{Sheet}
use Rattle.syntax.specs.declared.NodeType.{NodeType}
use Rattle.node_rules.specs.Nodes.{Tables}
use Rattle.compiler.specs.Compiles.{StopsAt, values, rows, Builds, stops, Compiles, faulted, passes}
use Rattle.compiler.proofs.Passed.{passed}
use Rattle.compiler_laws.proofs.FaultSpots.{number_small, spot-small}

stop-low : {sheet : Sheet} {tables : Tables} {limits : Limits} {n number : ℕ} → StopsAt sheet tables limits n number → number < 10
stop-low (values over) = omega arith
stop-low (rows few over) = omega arith

build-low : {mode : Mode} {sheet : Sheet} {types : List NodeType} {limits : Limits} {number spot : ℕ} {written : List ℕ} → SoundSheet mode sheet types
    → Builds mode sheet types limits (refused number spot) written → (number < 10) × (spot < 64)
build-low right (stops tables n number h built p over) = (stop-low over, omega (arith, right.formed.few-nodes))

pub refused-low : (bytes : List ℕ) {limits : Limits} {number spot : ℕ} {written : List ℕ} → Compiles bytes limits (refused number spot) written
    → (number < 10) × (spot < 64)
refused-low bytes (faulted f e) = (number_small f, spot-small bytes f e)
refused-low bytes (passes mode sheet types j answer written b) = build-low (passed bytes j) b
