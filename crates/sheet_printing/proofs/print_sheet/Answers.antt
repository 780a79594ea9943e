-- `sheet_printing::print_sheet` meets its contract: the areas are long enough, so what was printed is the text of what compiling gives.
use mathlib.Core.Path.{subst}
use mathlib.Core.List.{List}
use Prim.Native.Nat.{ℕ}
use native.Mathlib.Omega.{arith}
use lib.ListN.{drop, length-drop}
use lib.Seq.{take_all}
use Rattle.compiler.specs.Calling.{answer_of}
use Rattle.sheet_printing.specs.SheetText.{PrintsAnswer}
use Rattle.sheet_printing.proofs.Sheets.{into-printed}
use Rattle.printing.specs.Printing.{outcome_of}
use Rattle.sheet_printing.proofs.print_sheet.Goals as goal

pub returns : goal.returns
returns c =
    let compiled = c in
    let start = compiled in
    let area : List ℕ = compiled.compile-compiled.new.out in
    into-printed (record { output = omega arith; bytes = omega arith; numbers = omega arith }) compiled.compile-compiled.ensures
    (subst
    (λ (l : List ℕ). PrintsAnswer l start.args.text.now (answer_of compiled.compile-compiled.result) (outcome_of c.print_answer.result) c.print_answer.new.text)
    (take_all 1024 (drop 8 area) (omega (arith, length-drop 8 area)))
    c.print_answer.ensures)
