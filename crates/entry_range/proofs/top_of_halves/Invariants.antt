-- `entry_range::top_of_halves` meets its contract. The loop's invariant: the largest so far of both halves, which cover the entries.
use Rattle.entry_range.proofs.EntriesRange.{Both}
use Rattle.entry_range.proofs.top_of_halves.Given as goal

abbrev pub invariant-loop-k : goal.invariant-loop-k
invariant-loop-k l = Both l.entries l.second l.k l.top
