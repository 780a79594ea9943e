-- The goals of `action_lists::asked::read_list` that the check leaves.
use native.Mathlib.Omega.{arith}
use mathlib.Core.Path.{◌≡◌, ◌∙◌}
use lib.ListN.{length}
use borrow.Author.Rules.{rules}
use Rattle.positions.proofs.Counting.{none_left, one_left}
use Rattle.action_lists.proofs.Asking.{none-asked, one-asked, words-end, room-ends}
use Rattle.action_lists.proofs.asked.read_list.Goals as goal

pub returns-then-line-from : goal.returns-then-line-from
returns-then-line-from c = words-end _ c.loop-count.invariant (none_left c.pass_blanks-from.ensures c.if-line-from.true)

pub word_end-to-requires : goal.word_end-to-requires
word_end-to-requires c = (search rules, c.pass_blanks-from.ensures.solid (search rules))

pub loop-count-preserved : goal.loop-count-preserved
loop-count-preserved c =
    let i = c.loop-count.invariant in
    one-asked i (omega (arith, i.sized)) (one_left c.pass_blanks-from.ensures c.word_end-to.ensures) (c.unwrap_or.ensures ∙ c.read_asked.ensures)

pub returns : goal.returns
returns c =
    let e : c.loop-count.count ≡ length c.loop-count.list = omega (arith, c.loop-count.invariant.sized) in
    rw (← e) (room-ends _ c.loop-count.invariant (omega arith))

pub loop-count-init : goal.loop-count-init
loop-count-init c = none-asked _ _ _

pub shape_of-list-then-line-from : goal.shape_of-list-then-line-from
shape_of-list-then-line-from c = c.loop-count.invariant.sized

pub shape_of-list : goal.shape_of-list
shape_of-list c = c.loop-count.invariant.sized
