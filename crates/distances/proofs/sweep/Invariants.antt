-- `distances::sweep` meets its contract. The loop's invariant: no number is below its state's distance, and as long as all stood, none of the states
-- from s on is above it.
use Rattle.std.proofs.Common.{◌≡◌, true, ℕ, ◌≤◌, ◌<◌, length}
use Rattle.distances.specs.Distances.{NotBelow, NotAbove}
use Rattle.distances.proofs.sweep.Given as goal

abbrev pub invariant-loop-s : goal.invariant-loop-s
invariant-loop-s l =
    record {
      not_below : NotBelow l.machine.actions l.machine.next.now l.far;
      not_above : l.settled ≡ true → (t : ℕ) → l.s ≤ t → t < length l.far → NotAbove l.machine.actions l.machine.next.now l.far t;
    }
