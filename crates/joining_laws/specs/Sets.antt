-- Tables as a set.
-- Assumes nothing.
use mathlib.Core.List.{List, Memᴰ}
use Rattle.std.specs.Prelude.{ℕ}

-- A table is one of a list.
abbrev pub AmongTables : List ℕ → List (List ℕ) → Type 0
AmongTables table tables = Memᴰ table tables

-- Each table of the one list is one of the other.
abbrev pub Among : List (List ℕ) → List (List ℕ) → Type 0
Among tables others = (table : List ℕ) → AmongTables table tables → AmongTables table others

-- Two lists have the same tables, whatever their order, and however often.
pub record SameTables (tables others : List (List ℕ)) : Type 0 where
  pub in-other : Among tables others
  pub in_one : Among others tables
