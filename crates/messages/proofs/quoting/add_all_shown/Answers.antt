-- The goals of `messages::quoting::add_all_shown` that the check leaves.
use mathlib.Core.Path.{◌≡◌, ap, ◌∙◌}
use Prim.Native.Nat.{ℕ}
use native.Mathlib.Omega.{arith}
use lib.ListN.{length, take}
use Rattle.messages.specs.Message.{all_shown}
use Rattle.messages.proofs.Adding.{adds_none, adds_then, adds-as}
use Rattle.messages.proofs.Pieces.{shown-more, shown-all}
use borrow.Author.Rules.{rules}
use Rattle.messages.proofs.quoting.add_all_shown.Goals as goal

pub loop-byte-init : goal.loop-byte-init
loop-byte-init c = (search rules, adds_none _ _)

pub loop-byte-preserved : goal.loop-byte-preserved
loop-byte-preserved c = (search rules, adds-as (shown-more c.args.word.now c.loop-byte.byte-index (search rules)) (adds_then c.loop-byte.invariant.1 c.add_shown-end.ensures))

pub shape_of-text : goal.shape_of-text
shape_of-text c = omega (arith, c.loop-byte.invariant.1.sized)

pub returns : goal.returns
returns c = let e : c.loop-byte.byte-index ≡ length c.args.word.now = omega arith in adds-as (ap (λ (n : ℕ). all_shown (take n c.args.word.now)) e ∙ shown-all c.args.word.now) c.loop-byte.invariant.1
