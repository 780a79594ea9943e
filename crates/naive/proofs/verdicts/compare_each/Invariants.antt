-- `naive::verdicts::compare_each` meets its contract. At most one difference is found after each sequence.
use Rattle.std.proofs.Common.{◌≤◌}
use Rattle.naive.proofs.verdicts.compare_each.Given as goal

abbrev pub invariant-loop-s : goal.invariant-loop-s
invariant-loop-s l = l.differing ≤ l.s
