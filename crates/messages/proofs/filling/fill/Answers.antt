-- The goals of `messages::filling::fill` that the check leaves.
use mathlib.Core.Path.{◌≡◌}
use native.Mathlib.Omega.{arith}
use lib.ListN.{length}
use mathlib.Core.Path.{sym}
use Rattle.messages.proofs.Adding.{adds_none, adds_then, adds-as}
use Rattle.messages.proofs.Pieces.{filled_none, filled_more, filled-all}
use borrow.Author.Rules.{rules}
use Rattle.messages.proofs.filling.fill.Goals as goal

pub loop-byte-init : goal.loop-byte-init
loop-byte-init c = (search rules, adds-as (sym (filled_none _ _ _)) (adds_none _ _))

pub loop-byte-preserved : goal.loop-byte-preserved
loop-byte-preserved c = (search rules, adds-as (filled_more c.args.first c.args.second c.args.word.now c.args.message.now c.loop-byte.byte-index (search rules)) (adds_then c.loop-byte.invariant.1 c.add_hole-end.ensures))

pub shape_of-text : goal.shape_of-text
shape_of-text c = omega (arith, c.loop-byte.invariant.1.sized)

pub returns : goal.returns
returns c = let e : c.loop-byte.byte-index ≡ length c.args.message.now = omega arith in adds-as (filled-all _ _ _ _) (rw e at c.loop-byte.invariant.1)
