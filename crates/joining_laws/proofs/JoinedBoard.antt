-- A board that holds the tables of a join, and a board that holds the joined table, answer the same actions alike.
-- Assumes nothing.
use mathlib.Core.Path.{◌≡◌, ◌∙◌, ap, subst}
use mathlib.Core.List.Memᴰ
use mathlib.Core.List.{List, [], ◌∷◌, ◌++◌}
use Prim.Native.Nat.{ℕ, ◌≤◌}
use native.Mathlib.Omega.{arith}
use Rattle.limits.specs.declared.Limits.{Limits}
use Rattle.table.specs.Table.{type_of, actions_of}
use Rattle.table.specs.Answer.{accepted}
use Rattle.places.specs.declared.Board.{Board}
use Rattle.runs.specs.Events.{Event}
use Rattle.board_laws.specs.History.{History}
use Rattle.board_laws.proofs.HistoryRun.{history-run}
use Rattle.runs.proofs.Reports.{beginning}
use Rattle.joining.specs.Tables.{table_at, tables_in}
use Rattle.joining.specs.Joins.{Joins}
use Rattle.joining_laws.specs.Conjunction.{JoinedTable}
use Rattle.joining_laws.specs.Sets.{AmongTables, SameTables}
use Rattle.joining_laws.specs.Boards.{StandsFor, AlikeAnswers, Follow}
use Rattle.runs.specs.Holding.{Holds, PutsOnly, ActsOnly}
use Rattle.joining_laws.proofs.SomeTrips.{listed-member, member-listed}
use Rattle.joining_laws.proofs.JoinedTable.{joined-table}
use Rattle.joining_laws.proofs.Boards.{holds_same, run-joined-board, joined-board}
use Rattle.runs.proofs.Holding.{run-puts-hold}

-- A joined table stands for its tables.
pub stands-for : {count : ℕ} {input : List ℕ} {type actions rows : ℕ} {written : List ℕ} → JoinedTable count input type actions rows written
    → StandsFor written (tables_in count input) actions
stands-for {count} {input} {actions = actions} t =
    record {
      all = record { some = some; enforced = enforced; acting = acting };
      enforced = t.enforced;
      acting = t.actions-are;
      reads = t.reads;
    }
  where
    some : tables_in count input ≡ [] → ⊥
    some e = Memᴰ.not-nil (subst (AmongTables (table_at input 0)) e (listed-member count (table_at input) 0 (omega (arith, t.joinable.tables.counted.low))))

    enforced : (table : List ℕ) → AmongTables table (tables_in count input) → type_of table ≡ 1
    enforced table m = let (i, h, e) = member-listed count (table_at input) m in ap type_of e ∙ (t.joinable.tables.fit i h).enforced

    acting : (table : List ℕ) → AmongTables table (tables_in count input) → actions_of table ≡ actions
    acting table m = let (i, h, e) = member-listed count (table_at input) m in ap actions_of e ∙ t.joinable.each i h

module _ {limits : Limits} (small : limits.rows ≤ 64) {count : ℕ} {input : List ℕ} {type actions rows : ℕ} {written : List ℕ}
    (j : Joins count input limits (accepted type actions rows) written) where
  -- A board that holds the tables of a join and a board that holds the joined table, with the same actions permitted since, answer the same actions
  -- alike, so that only the place that a denial names may differ, and they hold the same again.
  pub joined-board-of-join : {events others : List Event} {since : List ℕ} → Holds events (tables_in count input) since → Holds others (written ∷ []) since
      → {later later' : List Event} {asked : List ℕ} → ActsOnly later asked → ActsOnly later' asked
      → {board board' : Board} {area area' : List ℕ} → History (later ++ events) board area → History (later' ++ others) board' area'
      → Follow (tables_in count input) written later events later' others
  joined-board-of-join = joined-board (stands-for (joined-table small j))

  -- A new board on which the tables of a join were put, in any order and any of them twice, and a new board on which the joined table was put,
  -- answer the same actions alike.
  pub joined-board-from-new : {puts puts' : List Event} {tables : List (List ℕ)} → PutsOnly puts tables → SameTables tables (tables_in count input) → PutsOnly puts' (written ∷ [])
      → {later later' : List Event} {asked : List ℕ} → ActsOnly later asked → ActsOnly later' asked
      → {board board' : Board} {area area' : List ℕ} → History (later ++ puts) board area → History (later' ++ puts') board' area' → AlikeAnswers later later'
  joined-board-from-new {puts} {puts'} p s p' {later} {later'} acts acts' g g' =
      (run-joined-board (stands-for (joined-table small j)) (holds_same s (run-puts-hold p (beginning later puts (history-run g)).1))
      (run-puts-hold p' (beginning later' puts' (history-run g')).1) acts acts' (history-run g) (history-run g')
      ).answers
