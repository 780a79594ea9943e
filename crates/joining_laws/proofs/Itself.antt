-- A table joined with itself, however often, is itself.
-- Assumes nothing.
use mathlib.Core.Path.{◌≡◌, sym, ◌∙◌, ap, subst}
use mathlib.Core.Bool.{true, false}
use mathlib.Core.List.Memᴰ
use mathlib.Core.List.{List, [], ◌∷◌}
use Prim.Native.Nat.{ℕ, ◌≤◌, ◌<◌}
use native.Mathlib.Omega.{arith}
use Rattle.trace.specs.Trace.{Sequence, trips}
use Rattle.trace.specs.Limits.{SameRow, ManyRows}
use Rattle.limits.specs.declared.Limits.{Limits}
use Rattle.limits.specs.Limits.{largest}
use Rattle.automaton.proofs.MinimalRows.{few-rows-suffice}
use Rattle.table.specs.Table.{actions_of, rows_of, row_step, Accepted, verdict}
use Rattle.table.specs.Answer.{Answer, accepted as accepts, refused}
use Rattle.table.proofs.SharedRows.{accepted-rows, accepted-share-row-exactly}
use Rattle.joining.specs.Tables.{table_at, tables_in}
use Rattle.joining.specs.Meaning.{some_trips, OverTuples, OverJoinedRows}
use Rattle.joining.specs.Joins.{Joins}
use Rattle.making.specs.Making.{IsTable}
use Rattle.joining_laws.specs.Answers.{Joinable}
use Rattle.joining_laws.specs.Conjunction.{SatisfiedWhere, JoinedTable}
use Rattle.joining_laws.specs.Sets.{AmongTables, SameTables}
use Rattle.joining_laws.proofs.SomeTrips.{or-none, listed-member, member-listed}
use Rattle.joining_laws.proofs.Outcome.{one-count}
use Rattle.joining_laws.proofs.Answers.{join-table-exactly}
use Rattle.joining_laws.proofs.JoinedTable.{joined-table, is-joined-exactly}
use Rattle.joining_laws.proofs.Sets.{same-trips, OneRow, all-rows, many-same}

-- one table, again and again
module _ {count : ℕ} {input : List ℕ} {actions : ℕ} (k : Joinable count input actions) (table : List ℕ) (all : (i : ℕ) → i < count → table_at input i ≡ table) where
  in-range : 0 < count
  in-range = omega (arith, k.tables.counted.low)

  first : table_at input 0 ≡ table
  first = all 0 in-range

  fine : Accepted table
  fine = subst Accepted first (k.tables.fit 0 in-range).accepted

  counted : actions_of table ≡ actions
  counted = ap actions_of (sym first) ∙ k.each 0 in-range

  is_member : AmongTables table (tables_in count input)
  is_member = subst (λ (t : List ℕ). AmongTables t (tables_in count input)) first (listed-member count (table_at input) 0 in-range)

  only : SameTables (tables_in count input) (table ∷ [])
  only =
      record {
        in-other = λ t m. let a = member-listed count (table_at input) m in Memᴰ.head (a.2 ∙ all a.0 a.1);
        in_one = λ t m. subst (λ (x : List ℕ). AmongTables x (tables_in count input)) (sym (Memᴰ.eq_of_singleton m)) is_member;
      }

  -- it trips where all do
  alone : (w : List ℕ) → some_trips (tables_in count input) w ≡ trips (row_step table) 0 w
  alone w = same-trips only w ∙ or-none (trips (row_step table) 0 w)

  few-joined : {limit : ℕ} → rows_of table ≤ limit → OverJoinedRows actions (tables_in count input) limit → ⊥
  few-joined {limit} small o =
      few-rows-suffice (accepted-rows table fine) limit small
      (subst (λ (n : ℕ). ManyRows n (λ v. trips (row_step table) 0 v) limit) (sym counted)
      (many-same (λ w p. alone w) o))

  few-tuples : {limit : ℕ} → rows_of table ≤ limit → OverTuples actions (tables_in count input) limit → ⊥
  few-tuples {limit} small o =
      few-rows-suffice (accepted-rows table fine) limit small (subst (λ (n : ℕ). ManyRows n (λ v. trips (row_step table) 0 v) limit) (sym counted) many)
    where
      many : ManyRows actions (λ v. trips (row_step table) 0 v) limit
      many = record { pick = o.pick; sequence = o.sequence; untripped = free; apart = apart }
        where
          free : (c : ℕ) → c ≤ limit → trips (row_step table) 0 (o.pick c) ≡ false
          free c h = sym (alone (o.pick c)) ∙ o.untripped c h

          own : (c : ℕ) → c ≤ limit → Sequence (actions_of table) (o.pick c)
          own c h = subst (λ (n : ℕ). Sequence n (o.pick c)) (sym counted) (o.sequence c h)

          apart : (c d : ℕ) → c < d → d ≤ limit → SameRow actions (λ v. trips (row_step table) 0 v) (o.pick c) (o.pick d) → ⊥
          apart c d l h r =
              o.apart c d l h
              (all-rows (o.pick c) (o.pick d) (tables_in count input) (λ t m.
              subst (OneRow (o.pick c) (o.pick d)) (sym (Memᴰ.eq_of_singleton (only.in-other t m)))
              ((accepted-share-row-exactly table fine (o.pick c) (o.pick d) (own c (omega arith)) (own d h) (free c (omega arith)) (free d h)).1
              (subst (λ (n : ℕ). SameRow n (λ v. trips (row_step table) 0 v) (o.pick c) (o.pick d)) (sym counted) r))))

  where-all : SatisfiedWhere actions table count input
  where-all =
      record {
        same = λ w s. (λ e i h. subst (λ (t : List ℕ). verdict t w ≡ true) (sym (all i h)) e, λ each. subst (λ (t : List ℕ). verdict t w ≡ true) first (each 0 in-range));
      }

  same_answer : {type others count' : ℕ} {written : List ℕ} → JoinedTable count input type others count' written → written ≡ table → others ≡ actions
      → accepts type others count' ≡ accepts 1 actions (rows_of table)
  same_answer t e a = let r = t.rows_are in let y = t.type-is in let z = ap rows_of e in cc

  module _ {limits : Limits} (small : limits.rows ≤ 64) where
    given : (x : Answer) {written : List ℕ} → Joins count input limits x written → IsTable x → (x ≡ accepts 1 actions (rows_of table)) × (written ≡ table)
    given (refused number spot) c i = absurd i
    given (accepts type others count') {written} c i = by (joined-table small c)
      where
        by : JoinedTable count input type others count' written → (accepts type others count' ≡ accepts 1 actions (rows_of table)) × (written ≡ table)
        by t = (same_answer t equal one, equal)
          where
            one : others ≡ actions
            one = one-count count input k.tables.counted t.joinable.each k.each

            equal : written ≡ table
            equal = (is-joined-exactly t table fine (counted ∙ sym one)).1 (subst (λ (n : ℕ). SatisfiedWhere n table count input) (sym one) where-all)

    -- A join all of whose tables are one table gives this table.
    pub join-itself-table : {type others rows : ℕ} {written : List ℕ} → Joins count input limits (accepts type others rows) written → written ≡ table
    join-itself-table c = (given _ c tt).1

    -- A table joined with itself, however often, is answered and is itself, where its rows are inside the limits.
    pub join-itself : rows_of table ≤ limits.values → rows_of table ≤ limits.rows → {x : Answer} {written : List ℕ} → Joins count input limits x written
        → (x ≡ accepts 1 actions (rows_of table)) × (written ≡ table)
    join-itself values rows {x} c =
        given x c ((join-table-exactly c).1 (record { actions = actions; joinable = k; few-tuples = few-tuples values; few-rows = few-joined rows }))

  -- With the limits of the call, a table joined with itself, however often, is answered and is itself.
  pub join-itself-always : {x : Answer} {written : List ℕ} → Joins count input largest x written → (x ≡ accepts 1 actions (rows_of table)) × (written ≡ table)
  join-itself-always c = let h = fine.formed.header.rows-high in join-itself (omega arith) (omega arith) h c
