-- `corpus::records::run_left` meets its contract. What is done and left is what there was, unless something was cut off; the measure is what is left.
use Rattle.std.proofs.Common.{◌≡◌, ◌+◌, ◌≤◌, true}
use Rattle.corpus.proofs.records.run_left.Given as goal

abbrev pub invariant-loop-at : goal.invariant-loop-at
invariant-loop-at g l =
    goal.F-IsAlwaysCallable g l.rest
    × (l.fn.start.done ≤ l.at.done)
    × (l.at.done + l.at.left ≤ l.fn.start.done + l.fn.start.left)
    × (l.at.whole ≡ true → l.at.done + l.at.left ≡ l.fn.start.done + l.fn.start.left)

abbrev pub decreases-loop-at : goal.decreases-loop-at
decreases-loop-at g l = l.at.left
