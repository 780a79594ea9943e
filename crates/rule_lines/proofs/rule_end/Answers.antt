-- The goals of `rule_lines::rule_end` that the check leaves.
use mathlib.Core.Path.{refl, sym, ◌∙◌}
use Prim.Native.Nat.{◌<◌}
use native.Mathlib.Omega.{arith}
use lib.ListN.{length}
use borrow.Author.Rules.{rules}
use Rattle.rule_lines.proofs.Lines.{rule-stops, rule-goes-on, rule-ends}
use Rattle.rule_lines.proofs.rule_end.Goals as goal

pub loop-from-init : goal.loop-from-init
loop-from-init c = (search rules, search rules, refl)

pub returns-then-separates : goal.returns-then-separates
returns-then-separates c =
    let l = c.loop-from in
    let e = c.find-end.ensures in
    let z = rule-stops e (sym c.separates.ensures ∙ c.if-separates.true) in
    record { onward = l.invariant.0; within = l.invariant.1; lines = omega (arith, z, l.invariant.2) }

pub returns-then-end-file : goal.returns-then-end-file
returns-then-end-file c =
    let l = c.loop-from in
    let e = c.find-end.ensures in
    let z = rule-ends e (sym c.separates.ensures ∙ c.if-separates.false) c.if-end-file.true in
    record { onward = omega (arith, e.onward, l.invariant.0); within = e.within; lines = omega (arith, z, l.invariant.2) }

pub loop-from-smaller : goal.loop-from-smaller
loop-from-smaller c = omega (arith, c.find-end.ensures.onward, c.find-end.ensures.within)

pub loop-from-preserved : goal.loop-from-preserved
loop-from-preserved c =
    let l = c.loop-from in
    let e = c.find-end.ensures in
    let inside : c.find-end.result < length c.args.file.now = omega (arith, e.within) in
    let z = rule-goes-on e (sym c.separates.ensures ∙ c.if-separates.false) inside in
    (omega (arith, e.onward, l.invariant.0), omega arith, l.invariant.2 ∙ z)
