-- The goals of `loader::rows::widen` that the check leaves.
use Rattle.std.proofs.Common.{length, ◌∙◌, arith}
use Rattle.base.proofs.Lists.{build-get_or, stored-all}
use Rattle.base.proofs.Stored.{stored-none, stored_more, stored-end}
use Rattle.loader.proofs.rows.widen.Goals as goal

pub loop-k-init : goal.loop-k-init
loop-k-init c = stored-none _ _ _

pub loop-k-preserved : goal.loop-k-preserved
loop-k-preserved c = stored_more c.loop-k.invariant (omega arith) (omega (arith, c.requires)) c.from.ensures

pub returns : goal.returns
returns c =
    let g = c.args in
    stored-end c.loop-k.invariant (omega arith)
    ∙ rw (build-get_or g.entries.now) (stored-all g.entries.now g.next.now (length g.entries.now) (omega arith))
