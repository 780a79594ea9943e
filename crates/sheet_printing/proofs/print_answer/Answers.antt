-- `sheet_printing::print_answer` meets its contract, case by case.
use Rattle.std.proofs.Common.{◌≡◌, Err, rules}
use Rattle.compiler.specs.declared.CompileError.TheVariants.{ShortArea, Refused}
use Rattle.sheet_printing.specs.SheetText.{of-table, of-refusal}
use Rattle.sheet_printing.proofs.print_answer.Goals as goal

pub returns-in-Ok : goal.returns-in-Ok
returns-in-Ok c = rw c.in-Ok.is (of-table _ _ _ _ _ c.print_table.ensures)

pub returns-in-Err-ShortArea : goal.returns-in-Err-ShortArea
returns-in-Err-ShortArea c =
    let e : c.args.compiled ≡ Err ShortArea = search rules in
    rw e (of-refusal _ _ _ _ c.print_refusal.ensures)

pub returns-in-Err-Refused : goal.returns-in-Err-Refused
returns-in-Err-Refused c =
    let e : c.args.compiled ≡ Err (Refused c.in-Err-Refused.refusal) = search rules in
    rw (e, ← c.number.ensures, ← c.spot.ensures) (of-refusal _ _ _ _ c.print_refusal-in-Err-Refused.ensures)
