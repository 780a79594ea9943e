-- `print_denial::texts::ask_rules` is safe. The loop's invariant: the next rule begins within the file.
use Prim.Native.Nat.{◌≤◌}
use lib.ListN.{length}
use Rattle.print_denial.proofs.texts.ask_rules.Given as goal

abbrev pub invariant-loop-number : goal.invariant-loop-number
invariant-loop-number g l = l.from ≤ length l.file
