-- `printing::print_table` meets its contract.
use native.Mathlib.Omega.{arith}
use borrow.Author.Rules.{rules}
use Rattle.printing.specs.Printing.{out_of_range, in-range}
use Rattle.printing.proofs.print_table.Goals as goal

pub returns-then-actions-lt1 : goal.returns-then-actions-lt1
returns-then-actions-lt1 c =
    out_of_range (λ h. grind (arith, c.then-actions-lt1.branch, h.actions-low, h.actions-high, h.rows-low, h.rows-high, h.enough))

pub returns : goal.returns
returns c =
    in-range _ _
    (record { actions-low = search rules; actions-high = search rules; rows-low = search rules; rows-high = search rules; enough = search rules })
    (rw (← c.table_text.ensures, ← c.written.ensures) c.give.ensures)
