-- The goals of `rule_rows::build_all` that the check leaves.
use mathlib.Core.Path.{◌≡◌, refl}
use native.Mathlib.Omega.{arith}
use Rattle.rule_rows.proofs.Progress.{next-buildable, advances}
use Rattle.rule_rows.proofs.build_all.Goals as goal

pub build_next-requires : goal.build_next-requires
build_next-requires c =
    let l = c.loop-node in
    next-buildable c.requires c.loop-node-test.true l.invariant.0 _ refl l.values (omega (arith, c.requires.room)) (omega (arith, c.requires.space))

pub returns-in-Err : goal.returns-in-Err
returns-in-Err c = advances c.requires c.loop-node-test.true c.loop-node.invariant.0 _ refl _ c.build_next.new.work c.in-Err.ensures

pub loop-node-preserved : goal.loop-node-preserved
loop-node-preserved c = advances c.requires c.loop-node-test.true c.loop-node.invariant.0 _ refl _ c.build_next.new.work c.in-Ok.ensures

pub returns : goal.returns
returns c =
    let l = c.loop-node in
    let e : l.node ≡ c.args.count = omega (arith, c.loop-node-test.false) in
    rw (← e) l.invariant
