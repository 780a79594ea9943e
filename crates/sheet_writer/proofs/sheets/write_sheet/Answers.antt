-- `sheet_writer::sheets::write_sheet` meets its contract: what stands before the nodes, and the bytes of the nodes after it.
use mathlib.Core.Path.{refl}
use native.Mathlib.Omega.{arith}
use Rattle.sheet_writer.proofs.Written.{front-written}
use Rattle.sheet_writer.proofs.SheetWritten.{sheet-written}
use Rattle.sheet_writer.proofs.sheets.write_sheet.Goals as goal

pub returns : goal.returns
returns c =
    let a = c.args in
    record {
      size_is = refl;
      output =
          sheet-written a.actions.now a.count a.nodes.now a.out.now c.requires _ _
          (front-written a.out.now a.actions.now _ a.count c.write_header.ensures c.write_actions.ensures)
          c.copy_from_slice.ensures.after;
      narrow = λ k h. omega (arith, c.type_inv.actions k);
    }
