-- The rows of an accepted table are the rows of what it trips on, so two sequences lead to one row exactly when they share it.
-- Assumes nothing.
use mathlib.Core.Path.{◌≡◌, refl}
use mathlib.Core.Bool.{false}
use mathlib.Core.List.{List}
use mathlib.Core.Logic.{◌↔◌}
use Prim.Native.Nat.{ℕ}
use Rattle.trace.specs.Trace.{Sequence, go, run, trips}
use Rattle.trace.specs.Limits.{SameRow}
use Rattle.automaton.specs.Minimal.{RowsOf}
use Rattle.automaton.proofs.MinimalRows.{share-row-exactly}
use Rattle.table.specs.Table.{actions_of, rows_of, entries_of, row_step, Accepted}
use Rattle.table.proofs.Formed.{machine}

-- An accepted table has the rows of the property of having tripped it.
pub accepted-rows : (bytes : List ℕ) → Accepted bytes → RowsOf (actions_of bytes) (λ v. trips (row_step bytes) 0 v) (rows_of bytes) (entries_of bytes)
accepted-rows bytes p =
    record {
      low = p.formed.header.rows-low;
      machine = machine bytes p.formed;
      numbered = p.canonical.numbered;
      distinct = p.canonical.distinct;
      reads = λ w s. refl;
    }

-- Two sequences that have not tripped share a row exactly when every continuation trips after both or after neither.
pub accepted-share-row-exactly : (bytes : List ℕ) → Accepted bytes
    → (u w : List ℕ) → Sequence (actions_of bytes) u → Sequence (actions_of bytes) w
    → trips (row_step bytes) 0 u ≡ false → trips (row_step bytes) 0 w ≡ false
    → (run (row_step bytes) (go 0) u ≡ run (row_step bytes) (go 0) w) ↔ SameRow (actions_of bytes) (λ v. trips (row_step bytes) 0 v) u w
accepted-share-row-exactly bytes p = share-row-exactly (accepted-rows bytes p)
