-- The table of a join is accepted and enforced, has the answer's actions and rows, and denies exactly where at least one of its tables denies;
-- and demand 3 for joins.
-- Assumes nothing.
use mathlib.Core.Path.{◌≡◌, refl, sym, ◌∙◌, subst}
use mathlib.Core.Bool.{true, false}
use mathlib.Core.List.{List}
use mathlib.Core.Logic.{◌↔◌}
use Prim.Native.Nat.{ℕ, ◌≤◌, ◌<◌}
use native.Mathlib.Omega.{arith}
use Rattle.trace.specs.Trace.{Sequence, trips}
use Rattle.limits.specs.declared.Limits.{Limits}
use Rattle.table.specs.Table.{actions_of, rows_of, row_step, WellFormed, Accepted, verdict, SameVerdicts}
use Rattle.table.specs.Answer.{accepted as accepts}
use Rattle.table.proofs.Verdicts.{equal-exactly-when-same-verdicts, accepted-has-fewest-rows}
use Rattle.making.proofs.TableBytes.{MadeOf, made_of}
use Rattle.joining.specs.Tables.{table_at, tables_in}
use Rattle.joining.specs.Meaning.{some_trips}
use Rattle.joining.specs.Joins.{Meets, joins, Joins, meets}
use Rattle.joining_laws.specs.Answers.{Joinable}
use Rattle.joining_laws.specs.Conjunction.{AllSatisfied, SomeDenies, SameJoinsSatisfied, SatisfiedWhere, JoinedTable}
use Rattle.joining_laws.proofs.SomeTrips.{same_truth, some-trips-exactly, none-trips-exactly}
use Rattle.joining_laws.proofs.Enforced.{satisfied-exactly, denies-exactly}
use Rattle.joining_laws.proofs.Outcome.{some-actions, few-actions}

module _ {count : ℕ} {input : List ℕ} {limits : Limits} (small : limits.rows ≤ 64) where
  met : {actions : ℕ} → Joinable count input actions → {type others rows : ℕ} {written : List ℕ}
      → Meets (tables_in count input) actions limits (accepts type others rows) written → JoinedTable count input type others rows written
  met {actions} j (joins f rows entries few r) =
      of (made_of 1 actions (omega arith) (omega arith) (some-actions count input j.tables.counted j.each j.tables.fit)
      (few-actions count input j.tables.counted j.each j.tables.fit) (omega arith) r)
    where
      of : {written : List ℕ} → MadeOf 1 actions (some_trips (tables_in count input)) rows written → JoinedTable count input 1 actions rows written
      of m =
          record {
            accepted = m.accepted;
            enforced = m.type-is;
            type-is = refl;
            actions-are = m.actions-are;
            rows_are = m.rows_are;
            joinable = j;
            reads = m.reads;
          }

  -- A join that answers a table gives an accepted, enforced table with these actions and rows, and it trips where at least one of the tables does.
  pub joined-table : {type actions rows : ℕ} {written : List ℕ} → Joins count input limits (accepts type actions rows) written
      → JoinedTable count input type actions rows written
  joined-table (meets c fit w a over x t m) = met (record { tables = record { counted = c; fit = fit; whole = w }; each = over }) m

module _ {count : ℕ} {input : List ℕ} {type actions rows : ℕ} {written : List ℕ} (t : JoinedTable count input type actions rows written) (w : List ℕ) (s : Sequence actions w) where
  -- A joined table is satisfied exactly where all of its tables are.
  pub satisfied-by-all : (verdict written w ≡ true) ↔ AllSatisfied count input w
  satisfied-by-all = (
    λ e i h. (satisfied-exactly (table_at input i) w (t.joinable.tables.fit i h).enforced).1 ((none-trips-exactly w count (table_at input)).0 (sym (t.reads w s) ∙ own.0 e) i h),
    λ all. own.1 (t.reads w s
        ∙ (none-trips-exactly w count (table_at input)).1 (λ i h. (satisfied-exactly (table_at input i) w (t.joinable.tables.fit i h).enforced).0 (all i h))),
  )
    where
      own : (verdict written w ≡ true) ↔ (trips (row_step written) 0 w ≡ false)
      own = satisfied-exactly written w t.enforced

  -- A joined table denies exactly where at least one of its tables denies.
  pub denied-by-some : (verdict written w ≡ false) ↔ SomeDenies count input w
  denied-by-some = (λ e. there ((some-trips-exactly w count (table_at input)).0 (sym (t.reads w s) ∙ own.0 e)), back)
    where
      own : (verdict written w ≡ false) ↔ (trips (row_step written) 0 w ≡ true)
      own = denies-exactly written w t.enforced

      there : (i : ℕ) × (i < count) × (trips (row_step (table_at input i)) 0 w ≡ true) → SomeDenies count input w
      there p =
          record { at = p.0; inside = p.1; denies = (denies-exactly (table_at input p.0) w (t.joinable.tables.fit p.0 p.1).enforced).1 p.2 }

      back : SomeDenies count input w → verdict written w ≡ false
      back d =
          own.1 (t.reads w s
          ∙ (some-trips-exactly w count (table_at input)).1
          (d.at, d.inside, (denies-exactly (table_at input d.at) w (t.joinable.tables.fit d.at d.inside).enforced).0 d.denies))

-- a table with a joined one's actions
module _ {count : ℕ} {input : List ℕ} {type actions rows : ℕ} {written : List ℕ} (t : JoinedTable count input type actions rows written) where
  in-actions : (w : List ℕ) → Sequence (actions_of written) w → Sequence actions w
  in-actions w = subst (λ (n : ℕ). Sequence n w) t.actions-are

  -- It is the joined table exactly when it is satisfied exactly where all of the tables are.
  pub is-joined-exactly : (table : List ℕ) → Accepted table → actions_of table ≡ actions → (written ≡ table) ↔ SatisfiedWhere actions table count input
  is-joined-exactly table a acts = (there, back)
    where
      exactly : (written ≡ table) ↔ SameVerdicts (actions_of written) written table
      exactly = equal-exactly-when-same-verdicts written table t.accepted a (t.actions-are ∙ sym acts)

      there : written ≡ table → SatisfiedWhere actions table count input
      there e = subst (λ (l : List ℕ). SatisfiedWhere actions l count input) e (record { same = satisfied-by-all t })

      back : SatisfiedWhere actions table count input → written ≡ table
      back v = exactly.1 (record { same = λ w s. at w (in-actions w s) })
        where
          at : (w : List ℕ) → Sequence actions w → verdict written w ≡ verdict table w
          at w s =
              same_truth (verdict written w) (verdict table w) (λ e. (v.same w s).1 ((satisfied-by-all t w s).0 e)) (λ e. (satisfied-by-all t w s).1 ((v.same w s).0 e))

module _ {limits : Limits} (small : limits.rows ≤ 64) {count : ℕ} {input : List ℕ} {type actions rows : ℕ} {written : List ℕ}
    (j : Joins count input limits (accepts type actions rows) written) where
  -- The table of a join is satisfied after a sequence exactly when all of its tables are.
  pub joined-verdict : (w : List ℕ) → Sequence actions w → (verdict written w ≡ true) ↔ ((i : ℕ) → i < count → verdict (table_at input i) w ≡ true)
  joined-verdict = satisfied-by-all (joined-table small j)

  -- The table of a join denies a sequence exactly when at least one of its tables denies it.
  pub joined-denies : (w : List ℕ) → Sequence actions w → (verdict written w ≡ false) ↔ ((i : ℕ) × (i < count) × (verdict (table_at input i) w ≡ false))
  joined-denies w s =
      let e = denied-by-some (joined-table small j) w s in
      (λ d. ((e.0 d).at, (e.0 d).inside, (e.0 d).denies), λ p. e.1 (record { at = p.0; inside = p.1; denies = p.2 }))

  -- An accepted table with as many actions is the table of a join, byte for byte, exactly when it is satisfied exactly where all of the tables are.
  pub joined-equals-exactly : (table : List ℕ) → Accepted table → actions_of table ≡ actions → (written ≡ table) ↔ SatisfiedWhere actions table count input
  joined-equals-exactly = is-joined-exactly (joined-table small j)

  -- Every table with as many actions that gives a joined one's verdicts has at least as many rows, whether accepted itself or not.
  pub joined-has-fewest-rows : (table : List ℕ) → WellFormed table → actions_of table ≡ actions → SameVerdicts actions written table → rows ≤ rows_of table
  joined-has-fewest-rows table formed acts v = by (joined-table small j)
    where
      by : JoinedTable count input type actions rows written → rows ≤ rows_of table
      by t =
          subst (λ (n : ℕ). n ≤ rows_of table) t.rows_are
          (accepted-has-fewest-rows written table t.accepted formed (t.actions-are ∙ sym acts) (subst (λ (n : ℕ). SameVerdicts n written table) (sym t.actions-are) v))

  -- Two joins, each under limits of its own, that answer tables with as many actions give the same table, byte for byte, exactly when the same
  -- sequences satisfy all tables of the one and all of the other.
  pub joins-same-exactly : {limits' : Limits} → limits'.rows ≤ 64 → {count' : ℕ} {input' : List ℕ} {type' rows' : ℕ} {written' : List ℕ}
      → Joins count' input' limits' (accepts type' actions rows') written' → (written ≡ written') ↔ SameJoinsSatisfied actions count input count' input'
  joins-same-exactly small' {count'} {input'} {type'} {rows'} {written'} k = by (joined-table small' k)
    where
      by : JoinedTable count' input' type' actions rows' written' → (written ≡ written') ↔ SameJoinsSatisfied actions count input count' input'
      by u = (λ e. there (exactly.0 e), λ v. exactly.1 (back v))
        where
          exactly : (written ≡ written') ↔ SatisfiedWhere actions written' count input
          exactly = joined-equals-exactly written' u.accepted u.actions-are

          there : SatisfiedWhere actions written' count input → SameJoinsSatisfied actions count input count' input'
          there v =
              record {
                same = λ w s. (λ all. (satisfied-by-all u w s).0 ((v.same w s).1 all), λ all. (v.same w s).0 ((satisfied-by-all u w s).1 all));
              }

          back : SameJoinsSatisfied actions count input count' input' → SatisfiedWhere actions written' count input
          back v =
              record {
                same = λ w s. (λ e. (v.same w s).1 ((satisfied-by-all u w s).0 e), λ all. (satisfied-by-all u w s).1 ((v.same w s).0 all));
              }
