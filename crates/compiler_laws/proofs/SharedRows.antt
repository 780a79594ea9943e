-- Each row of a compiled table stands for one behaviour still to come: two sequences that have not tripped share a row exactly when every
-- continuation trips after both or after neither, said of the policy.
-- Assumes nothing.
use mathlib.Core.Path.{◌≡◌, sym, ◌∙◌, subst}
use mathlib.Core.Bool.{false}
use mathlib.Core.List.{List}
use mathlib.Core.Logic.{◌↔◌}
use Prim.Native.Nat.{ℕ, ◌≤◌}
use Rattle.trace.specs.Trace.{Sequence, go, run}
use Rattle.trace.specs.Limits.{SameRow}
use Rattle.limits.specs.declared.Limits.{Limits}
use Rattle.automaton.specs.Machine.{transition}
use Rattle.automaton.proofs.MinimalRows.{share-row-exactly}
use Rattle.table.specs.Table.{row_step, entries_of}
use Rattle.table.specs.Answer.{accepted}
use Rattle.syntax.specs.declared.Sheet.{Sheet}
use Rattle.compiler.specs.Compiles.{Compiles}
use Rattle.compiler_laws.specs.Demands.{ReadAs, trips_sheet}
use Rattle.compiler_laws.proofs.CompiledTable.{TableOf, compiled-table}

pub compiled-share-row-exactly : (bytes : List ℕ) (limits : Limits) → limits.rows ≤ 64 → {sheet : Sheet} → ReadAs bytes sheet
    → {type actions rows : ℕ} {written : List ℕ} → Compiles bytes limits (accepted type actions rows) written
    → (u w : List ℕ) → Sequence sheet.actions u → Sequence sheet.actions w → trips_sheet sheet u ≡ false → trips_sheet sheet w ≡ false
    → (run (row_step written) (go 0) u ≡ run (row_step written) (go 0) w) ↔ SameRow sheet.actions (trips_sheet sheet) u w
compiled-share-row-exactly bytes limits small {sheet} r {type} {actions} {rows} {written} c u w su sw eu ew = of (compiled-table bytes limits small r c)
  where
    of : TableOf sheet type actions rows written → (run (row_step written) (go 0) u ≡ run (row_step written) (go 0) w) ↔ SameRow sheet.actions (trips_sheet sheet) u w
    of t =
        subst (λ (n : ℕ). (run (transition 255 n (entries_of written)) (go 0) u ≡ run (transition 255 n (entries_of written)) (go 0) w) ↔ SameRow sheet.actions (trips_sheet sheet) u w)
        (sym (t.actions-are ∙ t.listed)) (share-row-exactly t.fits u w su sw eu ew)
