-- `printing::give` meets its contract.
use native.Mathlib.Omega.{arith}
use Rattle.printing.specs.Printing.{fits, short}
use Rattle.printing.proofs.give.Goals as goal

pub returns-then-text-written : goal.returns-then-text-written
returns-then-text-written c = short (omega arith)

pub returns : goal.returns
returns c = rw c.copy_from_slice.ensures.after (fits (omega arith))
