-- The goals of `distances::one_further` that the check leaves.
use Rattle.std.proofs.Common.{◌≡◌, arith}
use Rattle.distances.proofs.Measured.{least-none, least_more, least-further}
use Rattle.distances.proofs.one_further.Goals as goal

pub loop-a-init : goal.loop-a-init
loop-a-init c = least-none _ _ _

pub loop-a-preserved : goal.loop-a-preserved
loop-a-preserved c = least_more _ _ _ _ _ _ _ c.loop-a.invariant c.behind_action.ensures c.min-least.ensures

pub returns : goal.returns
returns c =
    let e : c.loop-a.a ≡ c.args.machine.actions = omega arith in
    least-further _ _ _ _ _ (rw e at c.loop-a.invariant)

pub overflow_add-result : goal.overflow_add-result
overflow_add-result c = omega (arith, c.loop-a.invariant.small)
