-- The goals of `action_lists::names::action_named` that the check leaves.
use native.Mathlib.Omega.{arith}
use borrow.Author.Rules.{rules}
use Rattle.lexer.proofs.Spelled.{same_bytes}
use Rattle.positions.proofs.Counting.{none_left, one_left}
use Rattle.action_lists.proofs.Naming.{named_here, named-later, named-nowhere}
use Rattle.action_lists.proofs.names.action_named.Goals as goal

pub returns-then-list-from : goal.returns-then-list-from
returns-then-list-from c = omega (arith, named-nowhere _ c.args.name.now (none_left c.pass_blanks-from.ensures c.if-list-from.true))

pub word_end-to-requires : goal.word_end-to-requires
word_end-to-requires c = (search rules, c.pass_blanks-from.ensures.solid (search rules))

pub returns-then-eq : goal.returns-then-eq
returns-then-eq c =
    let w = one_left c.pass_blanks-from.ensures c.word_end-to.ensures in
    omega (arith, named_here w c.args.name.now (grind (arith, same_bytes)))

pub loop-name-preserved : goal.loop-name-preserved
loop-name-preserved c =
    let b = c.pass_blanks-from.ensures in
    let e = c.word_end-to.ensures in
    let n = named-later (one_left b e) c.args.name.now (grind (arith, same_bytes)) in
    (e.within, omega (arith, b.onward, e.onward), omega (arith, n))

pub loop-name-init : goal.loop-name-init
loop-name-init c = (search rules, search rules, omega arith)
