-- `explain` meets its contract: 14 where an area is too short, and else what explaining gives.
use Rattle.making.specs.Making.{short}
use Rattle.making.proofs.LentAreas.{into}
use Rattle.explaining.proofs.call.explain.Goals as goal

pub returns-then-not-long_enough : goal.returns-then-not-long_enough
returns-then-not-long_enough c = short c.if-not-long_enough.ensures

pub returns : goal.returns
returns c =
    let e = c.explain_in.ensures in
    into _ _ c.args.work.now c.args.values.now c.if-not-long_enough.ensures _ _ _ _ e.writes_to e.zeroed e.zeroed_2
