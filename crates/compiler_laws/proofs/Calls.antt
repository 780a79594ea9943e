-- The call itself, with its areas: its answer and every lent byte are determined; with areas that are long enough the answer is a table exactly
-- when the sheet is well formed, well typed and inside 1,024 values and 64 rows; an answer that is no table leaves the output as it was; and
-- demand 3 of what two calls write.
-- Assumes nothing.
use mathlib.Core.Path.{◌≡◌, refl, sym, ◌∙◌}
use mathlib.Core.List.{List, []}
use mathlib.Core.Logic.{◌↔◌}
use Prim.Native.Nat.{ℕ, ◌+◌, ◌*◌}
use native.Mathlib.Omega.{arith}
use lib.ListN.{length, take}
use Rattle.trace.specs.declared.Mode.{Mode}
use Rattle.limits.specs.declared.Limits.{Limits}
use Rattle.limits.specs.Limits.{largest}
use Rattle.table.specs.Answer.{Answer, accepted, refused}
use Rattle.syntax.specs.declared.Sheet.{Sheet}
use Rattle.syntax.specs.declared.NodeType.{NodeType}
use Rattle.compiler.specs.Compiles.{Builds, stops, Compiles, faulted, passes}
use Rattle.making.specs.Making.{IsTable, Areas, short, makes}
use Rattle.making.proofs.Calls.{made-determined, refused-leaves, front-made}
use Rattle.compiler.specs.Calling.{CompilesInto}
use Rattle.compiler_laws.specs.Demands.{ReadAs, InsideLimits, NoRefusal, OneActionList, SameSatisfied}
use Rattle.compiler_laws.proofs.Outcome.{compiles-determined}
use Rattle.compiler_laws.proofs.CompiledTable.{compiled-as}
use Rattle.compiler_laws.proofs.Demands.{table-exactly-inside, table-exactly-unless-refused, same-table-exactly}

module _ {bytes out work values : List ℕ} where
  -- The contract of the call determines the answer and every byte of the lent areas.
  pub call-determined : {x y : Answer} {o p w q v r : List ℕ} → CompilesInto bytes out work values x o w v → CompilesInto bytes out work values y p q r
      → (x ≡ y) × (o ≡ p) × (w ≡ q) × (v ≡ r)
  call-determined = made-determined (Compiles bytes largest) (λ x y t u c d. compiles-determined bytes largest c d)

  -- Where the lent areas are long enough, the answer is a table exactly when the sheet is well formed, well typed and inside the limits.
  pub call-compiles-exactly : Areas out work values → {answer : Answer} {out' work' values' : List ℕ} → CompilesInto bytes out work values answer out' work' values'
      → IsTable answer ↔ InsideLimits bytes largest
  call-compiles-exactly areas (short h) = absurd (h areas)
  call-compiles-exactly areas (makes a x t c) = table-exactly-inside bytes largest c

  -- That is, exactly when none of the refusals 1 to 9 applies.
  pub call-table-exactly : Areas out work values → {answer : Answer} {out' work' values' : List ℕ} → CompilesInto bytes out work values answer out' work' values'
      → IsTable answer ↔ NoRefusal bytes largest
  call-table-exactly areas (short h) = absurd (h areas)
  call-table-exactly areas (makes a x t c) = table-exactly-unless-refused bytes largest c

-- a refusal has no table
built-none : {mode : Mode} {sheet : Sheet} {types : List NodeType} {limits : Limits} {number spot : ℕ} {written : List ℕ}
    → Builds mode sheet types limits (refused number spot) written → written ≡ []
built-none (stops tables n number h built p over) = refl

compiled-none : {bytes : List ℕ} {limits : Limits} {number spot : ℕ} {written : List ℕ} → Compiles bytes limits (refused number spot) written → written ≡ []
compiled-none (faulted f e) = refl
compiled-none (passes mode sheet types j answer written b) = built-none b

-- An answer that is no table leaves the output as it was.
pub refusal-leaves-output : {bytes out work values out' work' values' : List ℕ} {number spot : ℕ}
    → CompilesInto bytes out work values (refused number spot) out' work' values' → out' ≡ out
refusal-leaves-output {bytes} = refused-leaves (Compiles bytes largest) (λ t c. compiled-none c)

-- The table is the front of the output, as long as its counts say.
pub table-size : (bytes written : List ℕ) {type actions rows : ℕ} → Compiles bytes largest (accepted type actions rows) written → length written ≡ 8 + rows * actions
table-size bytes written c = let t = (compiled-as bytes largest (omega arith) c).table in t.accepted.formed.whole ∙ rw (t.rows_are, t.actions-are)

pub table-in-output : {bytes out work values out' work' values' : List ℕ} {type actions rows : ℕ}
    → CompilesInto bytes out work values (accepted type actions rows) out' work' values'
    → (written : List ℕ) × Compiles bytes largest (accepted type actions rows) written × (take (8 + rows * actions) out' ≡ written)
table-in-output {bytes} = front-made (Compiles bytes largest) (λ t c. table-size bytes t c)

-- Demand 3 of what two calls write: the tables in their outputs are equal, byte for byte, exactly when the same sequences satisfy the policies.
pub written-same-exactly : {bytes out work values out' work' values' other lent area list lent' area' list' : List ℕ} {sheet sheet' : Sheet}
    → ReadAs bytes sheet → ReadAs other sheet' → OneActionList sheet sheet' → {type actions rows type' actions' rows' : ℕ}
    → CompilesInto bytes out work values (accepted type actions rows) out' work' values'
    → CompilesInto other lent area list (accepted type' actions' rows') lent' area' list'
    → (take (8 + rows * actions) out' ≡ take (8 + rows' * actions') lent') ↔ SameSatisfied sheet sheet'
written-same-exactly {bytes} {other = other} {sheet = sheet} {sheet'} r r' one c d =
    let t = table-in-output c in
    let u = table-in-output d in
    let e = same-table-exactly largest largest (omega arith) (omega arith) bytes other r r' one t.1 u.1 in
    (λ q. e.0 (sym t.2 ∙ q ∙ u.2), λ q. t.2 ∙ e.1 q ∙ sym u.2)
