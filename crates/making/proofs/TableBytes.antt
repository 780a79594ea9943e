-- The bytes of a table: its header's fields and its rows are those it was made of, and it is accepted where the rows are.
-- Assumes nothing.
use mathlib.Core.Path.{◌≡◌, refl, sym, subst}
use mathlib.Core.Bool.{Bool}
use mathlib.Core.List.{List}
use Prim.Native.Nat.{ℕ, ◌+◌, ◌*◌, ◌≤◌, ◌<◌}
use native.Mathlib.Omega.{arith}
use lib.ListN.{length, get_or}
use Rattle.trace.specs.Trace.{Sequence, trips}
use Rattle.automaton.specs.Minimal.{RowsOf}
use Rattle.table.specs.Table.{type_of, actions_of, rows_of, offset_of, entries_of, row_step, EntryFits, HeaderFits, RowsFit, CanonicalRows, Accepted}
use Rattle.making.specs.Making.{table_bytes}

-- A table's bytes taken apart.
pub record Laid (bytes : List ℕ) (type actions rows : ℕ) (entries : List ℕ) : Type 0 where
  pub type-is : type_of bytes ≡ type
  pub actions-are : actions_of bytes ≡ actions
  pub rows_are : rows_of bytes ≡ rows
  pub offset-is : offset_of bytes ≡ 8
  pub entries-are : entries_of bytes ≡ entries
  pub long : length bytes ≡ 8 + length entries

pub laid : (type actions rows : ℕ) (entries : List ℕ) → Laid (table_bytes type actions rows entries) type actions rows entries
laid type actions rows entries =
    record { type-is = omega arith; actions-are = omega arith; rows_are = omega arith; offset-is = omega arith; entries-are = refl; long = omega arith }

module _ {bytes : List ℕ} {type actions rows : ℕ} {entries : List ℕ} (l : Laid bytes type actions rows entries) (low : 1 ≤ type) (high : type ≤ 2)
    (fit : RowsFit rows actions entries) where
  header : HeaderFits bytes
  header =
      record {
        long = omega (arith, l.long);
        type-low = omega (arith, l.type-is);
        type-high = omega (arith, l.type-is);
        actions-low = omega (arith, l.actions-are, fit.actions-low);
        actions-high = omega (arith, l.actions-are, fit.actions-high);
        rows-low = omega (arith, l.rows_are, fit.rows-low);
        rows-high = omega (arith, l.rows_are, fit.rows-high);
        offset = l.offset-is;
      }

  entry : (k : ℕ) → k < rows_of bytes * actions_of bytes → EntryFits (rows_of bytes) (get_or (entries_of bytes) k 255)
  entry k h = rw (l.rows_are, l.entries-are) (fit.machine.closed k (rw (l.rows_are, l.actions-are) at h))

  pub accepted-bytes : CanonicalRows rows actions entries → Accepted bytes
  accepted-bytes c =
      record {
        formed = record { header = header; whole = rw (l.rows_are, l.actions-are) (omega (arith, l.long, fit.machine.sized)); entries = entry };
        canonical = rw (l.rows_are, l.actions-are, l.entries-are) c;
      }

-- A table made of the rows of a property: accepted, with the fields that it was made of, and it trips where the property holds.
pub record MadeOf (type actions : ℕ) (tripped : List ℕ → Bool) (rows : ℕ) (written : List ℕ) : Type 0 where
  pub accepted : Accepted written
  pub type-is : type_of written ≡ type
  pub actions-are : actions_of written ≡ actions
  pub rows_are : rows_of written ≡ rows
  pub fits : RowsOf actions tripped rows (entries_of written)
  pub reads : (w : List ℕ) → Sequence actions w → trips (row_step written) 0 w ≡ tripped w

module _ (type actions : ℕ) (low : 1 ≤ type) (high : type ≤ 2) (some : 1 ≤ actions) (listed : actions ≤ 16) {tripped : List ℕ → Bool} {rows : ℕ} {entries : List ℕ}
    (few : rows ≤ 64) (r : RowsOf actions tripped rows entries) where
  made_by : {written : List ℕ} → Laid written type actions rows entries → MadeOf type actions tripped rows written
  made_by l =
      record {
        accepted =
            accepted-bytes l low high (record { machine = r.machine; rows-low = r.low; rows-high = few; actions-low = some; actions-high = listed })
            (record { numbered = r.numbered; distinct = r.distinct });
        type-is = l.type-is;
        actions-are = l.actions-are;
        rows_are = l.rows_are;
        fits = subst (RowsOf actions tripped rows) (sym l.entries-are) r;
        reads = λ w s. rw (l.actions-are, l.entries-are) (r.reads w s);
      }

  pub made_of : MadeOf type actions tripped rows (table_bytes type actions rows entries)
  made_of = made_by (laid type actions rows entries)
