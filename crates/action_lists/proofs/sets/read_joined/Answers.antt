-- `action_lists::sets::read_joined` meets its contract.
use Rattle.std.proofs.Common.{rules, arith, refl, sym, ◌∙◌, ◌<◌, length}
use Rattle.action_lists.proofs.Uniting.{one_bit, field-joins, field-ends, field-wrong}
use Rattle.action_lists.proofs.sets.read_joined.Goals as goal

pub returns-then-number-gt15 : goal.returns-then-number-gt15
returns-then-number-gt15 c =
    let l = c.loop-number in
    sym (field-wrong c.find-to.ensures l.set c.in-Some.ensures (omega arith)) ∙ l.invariant.1

pub returns-in_default : goal.returns-in_default
returns-in_default c =
    let l = c.loop-number in
    sym (field-wrong c.find-to.ensures l.set {number = 100} c.in_default.ensures (omega arith)) ∙ l.invariant.1

pub returns-then-to-word : goal.returns-then-to-word
returns-then-to-word c =
    let l = c.loop-number in
    let s = field-ends c.find-to.ensures l.set c.in-Some.ensures (omega arith) c.if-to-word.true in
    rw (one_bit c.in-Some.number (omega arith)) (sym s ∙ l.invariant.1)

pub loop-number-preserved : goal.loop-number-preserved
loop-number-preserved c =
    let l = c.loop-number in
    let e = c.find-to.ensures in
    let inside : c.find-to.result < length c.args.word.now = omega (arith, e.within) in
    let s = field-joins e l.set c.in-Some.ensures (omega arith) inside in
    (omega arith, rw (one_bit c.in-Some.number (omega arith)) (sym s ∙ l.invariant.1))

pub loop-number-init : goal.loop-number-init
loop-number-init c = (search rules, refl)
