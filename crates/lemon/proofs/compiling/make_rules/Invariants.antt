-- `lemon::compiling::make_rules`: the next rule begins within the file, and each rule so far has made a table.
use Rattle.std.proofs.Common.{◌≡◌, ◌+◌, ◌≤◌, length}
use Rattle.lemon.proofs.compiling.make_rules.Given as goal

abbrev pub invariant-loop-number : goal.invariant-loop-number
invariant-loop-number l = (l.from ≤ length l.file) × (l.made.count + 1 ≡ l.fn.before.count + l.number)
