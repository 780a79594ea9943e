-- `printing::print_refusal` meets its contract.
use native.Mathlib.Omega.{arith}
use borrow.Author.Rules.{rules}
use Rattle.printing.specs.Printing.{out_of_range, in-range}
use Rattle.printing.proofs.print_refusal.Goals as goal

pub returns-then-number-gt999 : goal.returns-then-number-gt999
returns-then-number-gt999 c = out_of_range (λ h. omega (arith, h.number-high, h.spot-high))

pub returns : goal.returns
returns c = in-range _ _ (record { number-high = search rules; spot-high = search rules }) (rw (← c.refusal_text.ensures, ← c.written.ensures) c.give.ensures)
