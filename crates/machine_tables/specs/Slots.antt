-- The rows of a slot as a table.
-- Assumes nothing.
use Rattle.std.specs.Prelude.{List, ℕ, ◌*◌, ◌≤◌, ◌<◌, length, take}
use Rattle.limits.specs.Lengths.{work_length}
use Rattle.table.specs.Table.{largest_table}
use Rattle.making.specs.Making.{table_bytes}
use Rattle.rules.specs.Rules.{slot_at}

-- The table of so many rows at the front of a slot.
abbrev pub slot_table : (type actions rows slot : ℕ) → List ℕ → List ℕ
slot_table type actions rows slot work = table_bytes type actions rows (take (rows * actions) (slot_at work slot))

-- What writing it is lent: counts of a table, a slot's number, the whole work area and room for any table.
pub record RowsWritable (actions rows slot : ℕ) (work out : List ℕ) : Type 0 where
  pub listed : actions ≤ 16
  pub few : rows ≤ 64
  pub inside : slot < 64
  pub bytes : work_length ≤ length work
  pub output : largest_table ≤ length out
