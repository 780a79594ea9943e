-- `refinement::refine` meets its contract. The loop's invariant: `count` classes, each of some state, and alike states have one class.
-- The measure is what is left of the limit.
use Rattle.std.proofs.Common.{◌-◌, length}
use Rattle.refinement.specs.Refining.{Refining}
use Rattle.refinement.proofs.refine.Given as goal

abbrev pub invariant-loop-finer : goal.invariant-loop-finer
invariant-loop-finer l = Refining (length l.initial.classes) l.actions l.limit l.count l.next l.classes

abbrev pub decreases-loop-finer : goal.decreases-loop-finer
decreases-loop-finer l = l.limit - l.count
