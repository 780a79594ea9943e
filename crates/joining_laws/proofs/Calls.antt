-- The call itself, with its areas: where they are too short it answers 14, else what joining gives; a refusal leaves the output as it was, and a
-- table is its front.
-- Assumes nothing.
use mathlib.Core.Path.{◌≡◌, refl, sym, ◌∙◌}
use mathlib.Core.List.{List, []}
use mathlib.Core.Logic.{◌↔◌}
use Prim.Native.Nat.{ℕ, ◌+◌, ◌*◌}
use native.Mathlib.Omega.{arith}
use lib.ListN.{length, take}
use Rattle.limits.specs.declared.Limits.{Limits}
use Rattle.limits.specs.Limits.{largest}
use Rattle.table.specs.Answer.{Answer, accepted, refused}
use Rattle.making.specs.Making.{Areas, short, makes}
use Rattle.making.proofs.Calls.{refused-leaves, front-made}
use Rattle.joining.specs.Joins.{Meets, many-tuples, many-rows, Joins, miscounted, unfit, left_over, mixed, meets}
use Rattle.joining.specs.Calling.{JoinsInto}
use Rattle.joining_laws.specs.Conjunction.{SameJoinsSatisfied, JoinedTable}
use Rattle.joining_laws.proofs.Answers.{join-never-14}
use Rattle.joining_laws.proofs.JoinedTable.{joined-table, joins-same-exactly}

-- a refusal has no table
met-none : {tables : List (List ℕ)} {actions : ℕ} {limits : Limits} {number spot : ℕ} {written : List ℕ}
    → Meets tables actions limits (refused number spot) written → written ≡ []
met-none (many-tuples o) = refl
met-none (many-rows f o) = refl

joined-none : {count : ℕ} {input : List ℕ} {limits : Limits} {number spot : ℕ} {written : List ℕ}
    → Joins count input limits (refused number spot) written → written ≡ []
joined-none (miscounted n) = refl
joined-none (unfit c i number h b u) = refl
joined-none (left_over c fit o) = refl
joined-none (mixed c fit w o) = refl
joined-none (meets c fit w a over x t m) = met-none m

-- a table is as long as its counts say
table-size : {count : ℕ} {input : List ℕ} {type actions rows : ℕ} (written : List ℕ) → JoinedTable count input type actions rows written → length written ≡ 8 + rows * actions
table-size written t = t.accepted.formed.whole ∙ rw (t.rows_are, t.actions-are)

module _ {count : ℕ} {input out work values : List ℕ} where
  -- With areas that are long enough, the answer is one of joining inside 1,024 tuples and 64 rows.
  pub join-call-answers : Areas out work values → {answer : Answer} {out' work' values' : List ℕ} → JoinsInto count input out work values answer out' work' values'
      → (written : List ℕ) × Joins count input largest answer written
  join-call-answers areas (short h) = absurd (h areas)
  join-call-answers areas (makes a answer written c) = (written, c)

  -- 14 is answered exactly when an area is too short.
  pub join-14-exactly : {answer : Answer} {out' work' values' : List ℕ} → JoinsInto count input out work values answer out' work' values'
      → (answer ≡ refused 14 0) ↔ (Areas out work values → ⊥)
  join-14-exactly (short h) = (λ e. h, λ n. refl)
  join-14-exactly (makes a answer written c) = (λ e. absurd (join-never-14 c e), λ n. absurd (n a))

  -- An answer that is no table leaves the output as it was.
  pub join-refusal-leaves-output : {number spot : ℕ} {out' work' values' : List ℕ} → JoinsInto count input out work values (refused number spot) out' work' values' → out' ≡ out
  join-refusal-leaves-output = refused-leaves (Joins count input largest) (λ t c. joined-none c)

  -- The table is the front of the output, as long as its counts say.
  pub joined-in-output : {type actions rows : ℕ} {out' work' values' : List ℕ} → JoinsInto count input out work values (accepted type actions rows) out' work' values'
      → (written : List ℕ) × Joins count input largest (accepted type actions rows) written × (take (8 + rows * actions) out' ≡ written)
  joined-in-output = front-made (Joins count input largest) (λ t c. table-size t (joined-table (omega arith) c))

-- Demand 3 of what two calls write: the tables in their outputs are equal, byte for byte, exactly when the same sequences satisfy all tables of the
-- one and all of the other.
pub join-outputs-same-exactly : {count count' : ℕ} {input out work values out' work' values' input' lent area list lent' area' list' : List ℕ} {type type' actions rows rows' : ℕ}
    → JoinsInto count input out work values (accepted type actions rows) out' work' values'
    → JoinsInto count' input' lent area list (accepted type' actions rows') lent' area' list'
    → (take (8 + rows * actions) out' ≡ take (8 + rows' * actions) lent') ↔ SameJoinsSatisfied actions count input count' input'
join-outputs-same-exactly c d =
    let t = joined-in-output c in
    let u = joined-in-output d in
    let e = joins-same-exactly (omega arith) t.1 (omega arith) u.1 in
    (λ q. e.0 (sym t.2 ∙ q ∙ u.2), λ q. t.2 ∙ e.1 q ∙ sym u.2)
