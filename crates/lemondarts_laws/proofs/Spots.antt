-- The number that compiling returns says the whole answer: a table's type, actions and rows, or a refusal's number and node.
-- Assumes nothing.
use mathlib.Core.Path.{subst}
use mathlib.Core.List.{List}
use Prim.Native.Nat.{ℕ, ◌≤◌}
use native.Mathlib.Omega.{arith}
use Rattle.limits.specs.Limits.{largest}
use Rattle.table.specs.Answer.{Answer, accepted, refused}
use Rattle.compiler.specs.Compiles.{Compiles}
use Rattle.making.specs.Making.{short, makes}
use Rattle.compiler.specs.Calling.{CompilesInto}
use Rattle.compiler_laws.proofs.CompiledTable.{compiled-as}
use Rattle.compiler_laws.proofs.Spots.{refused-low}
use Rattle.answers.specs.Numbers.{packed_answer}
use Rattle.lemondarts_laws.proofs.Answers.{Says, table-says, refused_says}

compiles-says : (bytes : List ℕ) (answer : Answer) {written : List ℕ} → Compiles bytes largest answer written → Says answer (packed_answer answer)
compiles-says bytes (refused number spot) c = let l = refused-low bytes c in refused_says number spot (omega (arith, l.0)) (omega (arith, l.1))
compiles-says bytes (accepted type actions rows) c =
    let t = (compiled-as bytes largest (omega arith) c).table in
    let f = t.accepted.formed.header in
    table-says type actions rows (subst (λ (k : ℕ). k ≤ 2) t.type-is f.type-high) (subst (λ (k : ℕ). k ≤ 16) t.actions-are f.actions-high) (subst (λ (k : ℕ). k ≤ 64) t.rows_are f.rows-high)

pub compile-says : {bytes out work values out' work' values' : List ℕ} {answer : Answer} → CompilesInto bytes out work values answer out' work' values'
    → Says answer (packed_answer answer)
compile-says (short n) = refused_says 14 0 (omega arith) (omega arith)
compile-says {bytes} (makes a answer written c) = compiles-says bytes answer c
