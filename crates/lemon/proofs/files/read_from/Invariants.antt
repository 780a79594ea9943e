-- `lemon::files::read_from`: what was read is within the area, and each read leaves less of it.
use Rattle.std.proofs.Common.{◌-◌, ◌≤◌, length}
use Rattle.lemon.proofs.files.read_from.Given as goal

abbrev pub invariant-loop-length : goal.invariant-loop-length
invariant-loop-length g l = l.length ≤ length l.to

abbrev pub decreases-loop-length : goal.decreases-loop-length
decreases-loop-length g l = length l.to - l.length
