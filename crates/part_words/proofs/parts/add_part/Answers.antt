-- The goals of `part_words::parts::add_part` that the check leaves.
use mathlib.Core.Path.{refl, sym, ◌∙◌}
use native.Mathlib.Omega.{arith}
use Rattle.messages.proofs.Adding.{adds_none, adds_then, adds-as}
use Rattle.part_words.proofs.PartLaws.{stack-done, stack-cut, stack-more}
use Rattle.part_words.proofs.parts.add_part.Goals as goal

pub loop-from-init : goal.loop-from-init
loop-from-init c = (refl, omega arith, omega arith, omega arith, refl, λ new e a. a)

pub returns-then-left-eq0 : goal.returns-then-left-eq0
returns-then-left-eq0 c =
    let a = c.args in
    let l = c.loop-from in
    l.invariant.5 _ _ (adds-as (stack-cut a.sheet.now l.stack l.from l.left (omega arith) (omega (arith, l.invariant.0))) c.add_cut.ensures)

pub loop-from-preserved : goal.loop-from-preserved
loop-from-preserved c =
    let a = c.args in
    let l = c.loop-from in
    let i = l.invariant in
    let p = c.push_parts-from.ensures in
    let n = c.add_node-end.ensures in (
      p.sized ∙ i.0,
      omega (arith, p.few, i.1),
      omega (arith, p.onward, i.0),
      omega (arith, i.3),
      n.sized ∙ i.4,
      λ new e more. i.5 new e (adds-as (stack-more a.sheet.now l.stack l.from l.left c.if-left-eq0.false (omega (arith, i.0)) p) (adds_then n more)),
    )

pub returns : goal.returns
returns c =
    let a = c.args in
    let l = c.loop-from in
    l.invariant.5 _ _ (adds-as (sym (stack-done a.sheet.now l.stack l.from l.left (omega (arith, l.invariant.0)))) (adds_none _ _))
