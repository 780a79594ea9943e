-- What an answer of explaining names: a refusal's number is 1 to 34 and its spot a node, a denial's place is one of the list and its node one of 64.
-- Assumes nothing.
use mathlib.Core.List.{List}
use Prim.Native.Nat.{ℕ, ◌≤◌, ◌<◌}
use native.Mathlib.Omega.{arith}
use lib.ListN.{length}
use Rattle.trace.specs.declared.Mode.{Mode}
use Rattle.limits.specs.declared.Limits.{Limits}
use Rattle.table.specs.Answer.{refused as compiler-refused}
use Rattle.syntax.specs.Faults.{number_of}
use Rattle.syntax.specs.declared.Fault.{Fault}
use Rattle.syntax.specs.declared.Fault.TheVariants.{Length, Counts, Areas, UnknownKindAt, WrongFieldAt, WrongTypeAt, BoundAt}
use Rattle.syntax.specs.declared.Sheet.{Sheet}
use Rattle.syntax.specs.declared.NodeType.{NodeType}
use Rattle.node_rules.specs.Nodes.{Tables}
use Rattle.compiler.specs.Compiles.{StopsAt, values, rows, Builds, stops, Compiles, faulted, passes}
use Rattle.compiler.proofs.Passed.{passed}
use Rattle.compiler_laws.proofs.Spots.{refused-low}
use Rattle.explaining.specs.Explains.{denied, refused, no-action, first-denied, Explains, not-compiled, watched, finds}
use Rattle.explaining.proofs.ReachedNodes.{policy-inside, reached-inside}

-- a refusal of compiling is no 0
fault-some : (f : Fault) → 1 ≤ number_of f
fault-some Length = omega arith
fault-some Counts = omega arith
fault-some Areas = omega arith
fault-some (UnknownKindAt n) = omega arith
fault-some (WrongFieldAt n) = omega arith
fault-some (WrongTypeAt n) = omega arith
fault-some (BoundAt n) = omega arith

stop-some : {sheet : Sheet} {tables : Tables} {limits : Limits} {n number : ℕ} → StopsAt sheet tables limits n number → 1 ≤ number
stop-some (values over) = omega arith
stop-some (rows few over) = omega arith

build-some : {mode : Mode} {sheet : Sheet} {types : List NodeType} {limits : Limits} {number spot : ℕ} {written : List ℕ}
    → Builds mode sheet types limits (compiler-refused number spot) written → 1 ≤ number
build-some (stops tables n number h built p over) = stop-some over

compile-some : {bytes : List ℕ} {limits : Limits} {number spot : ℕ} {written : List ℕ} → Compiles bytes limits (compiler-refused number spot) written → 1 ≤ number
compile-some (faulted f e) = fault-some f
compile-some (passes mode sheet types j answer written b) = build-some b

-- A number of 1 to 34, and a spot below 64.
pub record RefusalFits (number spot : ℕ) : Type 0 where
  pub low : 1 ≤ number
  pub high : number ≤ 34
  pub spot-low : spot < 64

-- Every refusal of explaining has these.
pub explain-refusal-fits : (bytes : List ℕ) {list : List ℕ} {limits : Limits} {number spot : ℕ} {written : List ℕ}
    → Explains bytes list limits (refused number spot) written → RefusalFits number spot
explain-refusal-fits bytes (not-compiled number spot c) =
    let r = refused-low bytes c in record { low = compile-some c; high = omega (arith, r.0); spot-low = r.1 }
explain-refusal-fits bytes (watched sheet c) = record { low = omega arith; high = omega arith; spot-low = omega arith }
explain-refusal-fits bytes (finds sheet c x t (no-action n)) = record { low = omega arith; high = omega arith; spot-low = omega arith }

-- The place of a denial is below the list's length, and its node below 64.
pub explain-denial-fits : (bytes : List ℕ) {list : List ℕ} {limits : Limits} {place node : ℕ} {written : List ℕ}
    → Explains bytes list limits (denied place node) written → (place < length list) × (node < 64)
explain-denial-fits bytes (finds sheet c x t (first-denied s place node f l)) =
    let right = passed bytes c.judged in
    (f.inside, omega (arith, reached-inside right.formed (policy-inside right.formed) l.reached, right.formed.few-nodes))
