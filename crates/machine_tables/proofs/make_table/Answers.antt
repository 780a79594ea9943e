-- `machine_tables::make_table` meets its contract: what building refuses, or the table of the rows in the slot.
use mathlib.Core.Path.{◌≡◌}
use borrow.Author.Rules.{rules}
use Rattle.std.proofs.Common.{Err}
use Rattle.machine_tables.proofs.Made.{nothing-made, table-made}
use Rattle.machine_tables.proofs.make_table.Goals as goal

pub returns-in_err-rows : goal.returns-in_err-rows
returns-in_err-rows g c =
    let is : c.from_residual.result ≡ Err c.in_err-rows.field-0.0 = search rules in
    rw is (nothing-made _ c.args.plan.slot _ c.args.work.now c.build_large.new.work c.in_err-rows.ensures)

pub returns : goal.returns
returns g c = table-made c.in_ok-rows.ensures _ _ c.write_rows.ensures
