-- `lemon::denials::ask_rules`: the next rule begins within the file.
use Rattle.std.proofs.Common.{◌≤◌, length}
use Rattle.lemon.proofs.denials.ask_rules.Given as goal

abbrev pub invariant-loop-number : goal.invariant-loop-number
invariant-loop-number l = l.from ≤ length l.file
