-- The goals of `part_words::propositions::is_named` that the check leaves.
use mathlib.Core.Path.{◌≡◌}
use native.Mathlib.Omega.{arith}
use Rattle.part_words.proofs.PropositionLaws.{none_named, named_more}
use borrow.Author.Rules.{rules}
use Rattle.part_words.proofs.propositions.is_named.Goals as goal

pub loop-node-init : goal.loop-node-init
loop-node-init c = (search rules, none_named _ _)

pub loop-node-preserved : goal.loop-node-preserved
loop-node-preserved c =
    let l = c.loop-node in
    let a = c.args in
    (search rules, cc (l.invariant.1, c.is_proposition-found.ensures, named_more a.sheet.now a.p l.node))

pub returns : goal.returns
returns c =
    let l = c.loop-node in
    let e : l.node ≡ 64 = omega arith in
    rw e at l.invariant.1
