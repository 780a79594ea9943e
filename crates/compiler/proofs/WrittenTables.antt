-- The table of a sheet whose nodes stand in the work area: its rows can be written, and writing them is what the sheet gives.
-- Assumes nothing.
use mathlib.Core.Path.{◌≡◌, sym, ◌∙◌, ap, subst}
use mathlib.Core.List.{List, ◌++◌}
use Prim.Native.Nat.{ℕ, ◌-◌, ◌≤◌}
use native.Mathlib.Omega.{arith}
use lib.ListN.{length, drop}
use Rattle.trace.specs.declared.Mode.{Mode}
use Rattle.limits.specs.Lengths.{work_length}
use Rattle.limits.specs.declared.Limits.{Limits}
use Rattle.table.specs.Table.{largest_table}
use Rattle.table.specs.Answer.{accepted, mode_number}
use Rattle.making.specs.Making.{table_bytes}
use Rattle.syntax.specs.Formed.{Formed}
use Rattle.syntax.specs.declared.Sheet.{Sheet}
use Rattle.machine_tables.specs.Slots.{slot_table, RowsWritable}
use Rattle.compiler.specs.Compiles.{builds, passes}
use Rattle.compiler.specs.Building.{SheetStands}
use Rattle.compiler.specs.Calling.{CompilesTo}
use Rattle.compiler.proofs.Passed.{passed}

module _ {bytes : List ℕ} {limits : Limits} {mode : Mode} {sheet : Sheet} {rows : ℕ} {work : List ℕ} (s : SheetStands bytes limits mode sheet rows work) where
  abbrev A : ℕ
  A = sheet.actions

  abbrev last : ℕ
  last = sheet.count - 1

  pub formed : Formed sheet
  formed = (passed bytes s.judged).formed

  pub writable : limits.rows ≤ 64 → work_length ≤ length work → (out : List ℕ) → largest_table ≤ length out → RowsWritable sheet.actions rows (sheet.count - 1) work out
  writable small room out output =
      record {
        listed = formed.few-actions;
        few = omega (arith, s.nodes.counted, s.nodes.last.few-rows);
        inside = omega (arith, formed.some-node, formed.few-nodes);
        bytes = room;
        output = output;
      }

  pub table-written : (out behind : List ℕ) → let t = slot_table (mode_number mode) sheet.actions rows (sheet.count - 1) work in behind ≡ t ++ drop (length t) out
      → CompilesTo bytes limits (accepted (mode_number mode) sheet.actions rows) out behind
  table-written out behind e =
      let n = s.nodes in
      let own = n.tables last in
      subst (λ (k : ℕ). CompilesTo bytes limits (accepted (mode_number mode) A k) out behind) (sym n.counted)
      (record {
        written = table_bytes (mode_number mode) A n.last.rows own;
        gives = passes mode sheet s.types s.judged _ _ (builds n.tables n.built n.last);
        front =
            e ∙ ap (λ (l : List ℕ). table_bytes (mode_number mode) A rows l ++ drop (length (table_bytes (mode_number mode) A rows l)) out) n.entries
            ∙ ap (λ (k : ℕ). table_bytes (mode_number mode) A k own ++ drop (length (table_bytes (mode_number mode) A k own)) out) n.counted;
      })
