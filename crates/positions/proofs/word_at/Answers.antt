-- The goals of `positions::word_at` that the check leaves.
use mathlib.Core.Path.{◌≡◌, refl, sym, ◌∙◌}
use native.Mathlib.Omega.{arith}
use borrow.Author.Rules.{rules}
use Prim.Native.Nat.{◌+◌, ◌-◌}
use Rattle.fields.proofs.Fielding.{none_between}
use Rattle.positions.proofs.Counting.{none_left, one_left, none-at, first-at, later-at}
use Rattle.positions.proofs.word_at.Goals as goal

pub returns-then-text-from : goal.returns-then-text-from
returns-then-text-from c =
    let l = c.loop-passed in
    let e = none_left c.pass_blanks-from.ensures c.if-text-from.true in
    record { onward = search rules; within = l.invariant.0; word = none_between 0 _ l.at ∙ sym (none-at (c.args.number - l.passed) e) ∙ l.invariant.1 }

pub word_end-at-requires : goal.word_end-at-requires
word_end-at-requires c = (search rules, c.pass_blanks-from.ensures.solid (search rules))

pub loop-passed-preserved : goal.loop-passed-preserved
loop-passed-preserved c =
    let l = c.loop-passed in
    let e = one_left c.pass_blanks-from.ensures c.word_end-at.ensures in
    let n : c.args.number - (l.passed + 1) ≡ c.args.number - l.passed - 1 = omega arith in
    (c.word_end-at.ensures.within, rw n (sym (later-at e (c.args.number - l.passed) (omega arith)) ∙ l.invariant.1))

pub returns-then-text-from-2 : goal.returns-then-text-from-2
returns-then-text-from-2 c =
    let l = c.loop-passed in
    let e = none_left c.pass_blanks-from-2.ensures c.if-text-from-2.true in
    record { onward = search rules; within = l.invariant.0; word = none_between 0 _ l.at ∙ sym (none-at (c.args.number - l.passed) e) ∙ l.invariant.1 }

pub word_end-requires : goal.word_end-requires
word_end-requires c = (search rules, c.pass_blanks-from-2.ensures.solid (search rules))

pub returns : goal.returns
returns c =
    let l = c.loop-passed in
    let w = c.word_end.ensures in
    let z : c.args.number - c.loop-passed.passed ≡ 0 = omega arith in
    let i = l.invariant.1 in
    record { onward = omega (arith, w.onward); within = w.within; word = sym (first-at (one_left c.pass_blanks-from-2.ensures w)) ∙ rw z at i }

pub loop-passed-init : goal.loop-passed-init
loop-passed-init c = let z : c.args.number - 0 ≡ c.args.number = omega arith in (search rules, rw z)
