-- `distances::one_further` meets its contract. The loop's invariant: the least of 254 and what stands behind the entries before a.
use Rattle.std.proofs.Common.{◌*◌}
use Rattle.distances.proofs.Measured.{Least}
use Rattle.distances.proofs.one_further.Given as goal

abbrev pub invariant-loop-a : goal.invariant-loop-a
invariant-loop-a l = Least l.machine.next.now l.far (l.s * l.machine.actions) l.a l.least
