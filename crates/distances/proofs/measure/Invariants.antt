-- `distances::measure` meets its contract. The loop's invariant: no number is below its state's distance.
use Rattle.distances.specs.Distances.{NotBelow}
use Rattle.distances.proofs.measure.Given as goal

abbrev pub invariant-loop : goal.invariant-loop
invariant-loop l = NotBelow l.machine.actions l.machine.next.now l.far
