-- From tables to what C reads: the number that joining returns says the whole answer; a 0 is a joined table in the output; and put on a board of
-- its own it answers actions as a board with all of the tables.
-- Assumes nothing.
use mathlib.Core.Path.{◌≡◌, sym, subst}
use mathlib.Core.List.{List, [], ◌∷◌, ◌++◌}
use Prim.Native.Nat.{ℕ, ◌≤◌}
use native.Mathlib.Omega.{arith}
use Rattle.base.specs.Fields.{field_in}
use Rattle.limits.specs.declared.Limits.{Limits}
use Rattle.limits.specs.Limits.{largest}
use Rattle.table.specs.Answer.{Answer, accepted, refused}
use Rattle.making.specs.Making.{short, makes}
use Rattle.joining.specs.Tables.{tables_in, Unfit, malformed, not-canonical, watched}
use Rattle.joining.specs.Joins.{Meets, many-tuples, many-rows, Joins, miscounted, unfit, left_over, mixed, meets}
use Rattle.joining.specs.Calling.{JoinsInto}
use Rattle.runs.specs.Events.{Event}
use Rattle.joining_laws.specs.Conjunction.{JoinedTable}
use Rattle.joining_laws.specs.Sets.{SameTables}
use Rattle.runs.specs.Holding.{PutsOnly, ActsOnly}
use Rattle.joining_laws.specs.Boards.{AlikeAnswers}
use Rattle.joining_laws.proofs.JoinedTable.{joined-table}
use Rattle.joining_laws.proofs.Calls.{joined-in-output}
use Rattle.joining_laws.proofs.JoinedBoard.{joined-board-from-new}
use Rattle.answers.specs.Numbers.{packed_answer}
use Rattle.lemondarts_laws.specs.Session.{number_in, Session}
use Rattle.lemondarts.specs.Joining.{JoinReturns}
use Rattle.lemondarts_laws.specs.TextTables.{table_in}
use Rattle.lemondarts_laws.proofs.Answers.{Says, table-says, refused_says}
use Rattle.lemondarts_laws.proofs.Sessions.{session-history}

-- The number of a refusal of joining is 2 to 34, and its spot 0.
record Refusal (number spot : ℕ) : Type 0 where
  low : 2 ≤ number
  high : number ≤ 34
  nowhere : spot ≡ 0

unfit-refusal : {table : List ℕ} {number : ℕ} → Unfit table number → Refusal number 0
unfit-refusal (malformed n) = record { low = omega arith; high = omega arith; nowhere = omega arith }
unfit-refusal (not-canonical w n) = record { low = omega arith; high = omega arith; nowhere = omega arith }
unfit-refusal (watched a t) = record { low = omega arith; high = omega arith; nowhere = omega arith }

met-refusal : {tables : List (List ℕ)} {actions : ℕ} {limits : Limits} {number spot : ℕ} {written : List ℕ}
    → Meets tables actions limits (refused number spot) written → Refusal number spot
met-refusal (many-tuples o) = record { low = omega arith; high = omega arith; nowhere = omega arith }
met-refusal (many-rows f o) = record { low = omega arith; high = omega arith; nowhere = omega arith }

join-refusal : {count : ℕ} {input : List ℕ} {limits : Limits} {number spot : ℕ} {written : List ℕ}
    → Joins count input limits (refused number spot) written → Refusal number spot
join-refusal (miscounted n) = record { low = omega arith; high = omega arith; nowhere = omega arith }
join-refusal (unfit c i number h b u) = unfit-refusal u
join-refusal (left_over c fit o) = record { low = omega arith; high = omega arith; nowhere = omega arith }
join-refusal (mixed c fit w o) = record { low = omega arith; high = omega arith; nowhere = omega arith }
join-refusal (meets c fit w a over x t m) = met-refusal m

joins-says : {count : ℕ} {input : List ℕ} (answer : Answer) {written : List ℕ} → Joins count input largest answer written → Says answer (packed_answer answer)
joins-says (refused number spot) j = let r = join-refusal j in refused_says number spot (omega (arith, r.high)) (omega (arith, r.nowhere))
joins-says (accepted type actions rows) j =
    let t = joined-table (omega arith) j in
    let f = t.accepted.formed.header in
    table-says type actions rows (omega (arith, t.type-is)) (subst (λ (k : ℕ). k ≤ 16) t.actions-are f.actions-high) (subst (λ (k : ℕ). k ≤ 64) t.rows_are f.rows-high)

-- the table in the output, with the counts that the number says
record Made (count : ℕ) (input : List ℕ) (returned : ℕ) (out' : List ℕ) : Type 0 where
  type : ℕ
  joined : Joins count input largest (accepted type (field_in 2 returned) (field_in 3 returned)) (table_in returned out')

module _ {count : ℕ} {input out work values : List ℕ} where
  -- Reading the fields of the returned number back gives the whole answer.
  pub join-says : {answer : Answer} {out' work' values' : List ℕ} → JoinsInto count input out work values answer out' work' values' → Says answer (packed_answer answer)
  join-says (short n) = refused_says 14 0 (omega arith) (omega arith)
  join-says (makes a answer written j) = joins-says answer j

  -- a refusal has another number than 0
  refused-some : {out' work' values' : List ℕ} {number spot : ℕ} → JoinsInto count input out work values (refused number spot) out' work' values' → 1 ≤ number
  refused-some (short n) = omega arith
  refused-some (makes a answer written j) = let r = join-refusal j in omega (arith, r.low)

  -- so a 0 is a table
  made : {out' work' values' : List ℕ} (returned : ℕ) (answer : Answer) → JoinsInto count input out work values answer out' work' values'
      → Says answer returned → number_in returned ≡ 0 → Made count input returned out'
  made returned (refused number spot) j s zero = absurd (omega (arith, refused-some j, s.0))
  made {out'} returned (accepted type actions rows) j s zero =
      let (written, joined, front) = joined-in-output j in
      let same : table_in returned out' ≡ written = rw (s.is-rows, s.is-actions) front in
      record { type = type; joined = rw (same, s.is-actions, s.is-rows) joined }

module _ {count : ℕ} {tables out work values : List ℕ} {returned : ℕ} {out' work' values' : List ℕ} (r : JoinReturns count tables out work values returned out' work' values')
    (zero : number_in returned ≡ 0) where
  was-made : Made count tables returned out'
  was-made = made returned r.answer r.joins (subst (Says r.answer) (sym r.number) (join-says r.joins)) zero

  -- Where joining returns 0, the table in the output is accepted and enforced, and denies exactly where at least one of the tables denies.
  pub join-makes-table : JoinedTable count tables 1 (field_in 2 returned) (field_in 3 returned) (table_in returned out')
  join-makes-table =
      let t = joined-table (omega arith) was-made.joined in
      subst (λ (type : ℕ). JoinedTable count tables type (field_in 2 returned) (field_in 3 returned) (table_in returned out')) t.type-is t

  -- Put on a new board by itself it answers the same actions as all of the tables on another, in the numbers that C reads: 0 by the one exactly
  -- where by the other. What may differ is the place that a denial names.
  pub session-joined : {puts puts' : List Event} {on : List (List ℕ)} → PutsOnly puts on → SameTables on (tables_in count tables) → PutsOnly puts' (table_in returned out' ∷ [])
      → {later later' : List Event} {asked : List ℕ} → ActsOnly later asked → ActsOnly later' asked
      → {bytes bytes' area area' : List ℕ} → Session (later ++ puts) bytes area → Session (later' ++ puts') bytes' area' → AlikeAnswers later later'
  session-joined p same p' acts acts' s s' =
      joined-board-from-new (omega arith) was-made.joined p same p' acts acts' (session-history s).history (session-history s').history
