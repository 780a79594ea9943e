-- When a node is over a limit, said of sequences: refusals 8 and 9.
-- Assumes nothing.
use Rattle.std.specs.Prelude.{ℕ, ◌≤◌}
use Rattle.trace.specs.Limits.{ManyValues, ManyRows}
use Rattle.limits.specs.declared.Limits.{Limits}
use Rattle.automaton.specs.Minimal.{RowsOf}
use Rattle.syntax.specs.declared.Sheet.{Sheet}
use Rattle.node_rules.specs.Nodes.{trips_node, Tables, remembered_at}

-- 8: more than `limit` different remembered values, counted over all sequences that have not tripped node n. `tables` are the rows of its parts.
abbrev pub OverValues : Sheet → Tables → ℕ → ℕ → Type 0
OverValues sheet tables n limit = ManyValues sheet.actions (trips_node sheet n) (remembered_at sheet tables n) limit

-- 9: more than `limit` rows are needed: more than `limit` sequences that have not tripped node n, no two of which share a row.
abbrev pub OverRows : Sheet → ℕ → ℕ → Type 0
OverRows sheet n limit = ManyRows sheet.actions (trips_node sheet n) limit

-- Node n is inside both limits, and `tables n` are its rows.
pub record Built (sheet : Sheet) (tables : Tables) (limits : Limits) (n : ℕ) : Type 0 where
  pub few-values : OverValues sheet tables n limits.values → ⊥
  pub rows : ℕ
  pub few-rows : rows ≤ limits.rows
  pub fits : RowsOf sheet.actions (trips_node sheet n) rows (tables n)
