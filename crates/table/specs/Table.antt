-- A table's bytes (docs/FORMATS.md, "The table"): the header, the rows, checks 10 and 11, and the verdict.
-- Assumes nothing.
use Rattle.std.specs.Prelude.{◌≡◌, Bool, cond, not, List, ℕ, ◌+◌, ◌*◌, ◌≤◌, ◌<◌, eqb, length, get_or, take, drop}
use Rattle.base.specs.Word.{word_at}
use Rattle.trace.specs.Trace.{Step, trips, Sequence}
use Rattle.automaton.specs.Machine.{transition, Machine, Numbered, Distinct}

-- The header, 8 bytes: type (1 enforced, 2 watched), count of actions, count of rows, offset of the rows.
abbrev pub type_of : List ℕ → ℕ
type_of bytes = word_at bytes 0

abbrev pub actions_of : List ℕ → ℕ
actions_of bytes = word_at bytes 2

abbrev pub rows_of : List ℕ → ℕ
rows_of bytes = word_at bytes 4

abbrev pub offset_of : List ℕ → ℕ
offset_of bytes = word_at bytes 6

-- The length that a header gives, and the table of that length at the front of some bytes.
abbrev pub table_length : List ℕ → ℕ
table_length bytes = 8 + rows_of bytes * actions_of bytes

abbrev pub front_table : List ℕ → List ℕ
front_table bytes = take (table_length bytes) bytes

-- The largest table: 64 rows over 16 actions behind its header.
abbrev pub largest_table : ℕ
largest_table = 1032

-- The rows, one behind the other: entry r * actions + a is the next row's number, or 255 for a trip.
abbrev pub entries_of : List ℕ → List ℕ
entries_of bytes = drop 8 bytes

-- The rows as a machine; row 0 is the start.
abbrev pub row_step : List ℕ → Step ℕ
row_step bytes = transition 255 (actions_of bytes) (entries_of bytes)

-- An entry is below the count of rows, or 255.
abbrev pub EntryFits : ℕ → ℕ → Type 0
EntryFits rows e = (e ≡ 255 → ⊥) → e < rows

-- A header whose fields are in their ranges.
pub record HeaderFits (bytes : List ℕ) : Type 0 where
  pub long : 8 ≤ length bytes
  pub type-low : 1 ≤ type_of bytes
  pub type-high : type_of bytes ≤ 2
  pub actions-low : 1 ≤ actions_of bytes
  pub actions-high : actions_of bytes ≤ 16
  pub rows-low : 1 ≤ rows_of bytes
  pub rows-high : rows_of bytes ≤ 64
  pub offset : offset_of bytes ≡ 8

-- Check 10 passes: the length, the header and every entry are right.
pub record WellFormed (bytes : List ℕ) : Type 0 where
  pub header : HeaderFits bytes
  pub whole : length bytes ≡ table_length bytes
  pub entries : (k : ℕ) → k < rows_of bytes * actions_of bytes → EntryFits (rows_of bytes) (get_or (entries_of bytes) k 255)

-- Rows that pass 10, by themselves.
pub record RowsFit (rows actions : ℕ) (entries : List ℕ) : Type 0 where
  pub machine : Machine 255 rows actions entries
  pub rows-low : 1 ≤ rows
  pub rows-high : rows ≤ 64
  pub actions-low : 1 ≤ actions
  pub actions-high : actions ≤ 16

-- Rows in the stated numbering, all met, and no two alike.
pub record CanonicalRows (rows actions : ℕ) (entries : List ℕ) : Type 0 where
  pub numbered : Numbered 255 rows actions entries
  pub distinct : Distinct 255 rows actions entries

-- Check 11 passes.
abbrev pub Canonical : List ℕ → Type 0
Canonical bytes = CanonicalRows (rows_of bytes) (actions_of bytes) (entries_of bytes)

-- An accepted table passes 10 and 11.
pub record Accepted (bytes : List ℕ) : Type 0 where
  pub formed : WellFormed bytes
  pub canonical : Canonical bytes

-- Type 1 is satisfied where the sequence has not tripped, type 2 where it has.
abbrev pub verdict_by : ℕ → Bool → Bool
verdict_by type tripped = cond (eqb type 1) (not tripped) tripped

-- The verdict of a table after a sequence: whether it is satisfied. It is defined for all bytes that pass 10.
abbrev pub verdict : List ℕ → List ℕ → Bool
verdict bytes w = verdict_by (type_of bytes) (trips (row_step bytes) 0 w)

-- Two tables give the same verdict after every finite sequence of actions, the empty one among them.
pub record SameVerdicts (actions : ℕ) (bytes other : List ℕ) : Type 0 where
  pub same : (w : List ℕ) → Sequence actions w → verdict bytes w ≡ verdict other w
