-- The goals of `base::copy` that the check leaves.
use mathlib.Core.Path.{refl, ◌∙◌}
use native.Mathlib.Omega.{arith}
use Rattle.base.proofs.Lists.{build-get_or}
use Rattle.base.proofs.Stored.{stored-none, stored_more, stored-end}
use Rattle.base.proofs.copy.Goals as goal

pub loop-k-init : goal.loop-k-init
loop-k-init c = stored-none _ _ _

pub loop-k-preserved : goal.loop-k-preserved
loop-k-preserved c = stored_more c.loop-k.invariant (omega arith) (omega (arith, c.requires)) refl

pub returns : goal.returns
returns c = stored-end c.loop-k.invariant (omega arith) ∙ rw (build-get_or c.args.from.now)
