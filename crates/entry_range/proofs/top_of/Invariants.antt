-- `entry_range::top_of` meets its contract. The loop's invariant: the largest so far.
use Rattle.entry_range.specs.Largest.{Largest}
use Rattle.entry_range.proofs.top_of.Given as goal

abbrev pub invariant-loop-entry : goal.invariant-loop-entry
invariant-loop-entry l = Largest l.entries l.entry-index l.top
