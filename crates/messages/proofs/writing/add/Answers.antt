-- The goals of `messages::writing::add` that the check leaves.
use mathlib.Core.Path.{◌≡◌}
use native.Mathlib.Omega.{arith}
use lib.ListN.{length}
use lib.Seq.{take-length}
use Rattle.messages.proofs.Adding.{adds_none, adds_then, adds-as}
use Rattle.messages.proofs.Pieces.{bytes-more}
use borrow.Author.Rules.{rules}
use Rattle.messages.proofs.writing.add.Goals as goal

pub loop-byte-init : goal.loop-byte-init
loop-byte-init c = (search rules, adds_none _ _)

pub loop-byte-preserved : goal.loop-byte-preserved
loop-byte-preserved c = (search rules, adds-as (bytes-more c.args.words.now c.loop-byte.byte-index (search rules)) (adds_then c.loop-byte.invariant.1 c.put-end.ensures))

pub shape_of-text : goal.shape_of-text
shape_of-text c = omega (arith, c.loop-byte.invariant.1.sized)

pub returns : goal.returns
returns c = let e : c.loop-byte.byte-index ≡ length c.args.words.now = omega arith in adds-as (take-length _) (rw e at c.loop-byte.invariant.1)
