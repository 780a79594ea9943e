-- The goals of `distances::measure` that the check leaves.
use Rattle.std.proofs.Common.{◌≡◌, length, replicate, arith}
use Rattle.std.proofs.lemmas.Grind.{common_steps}
use Rattle.distances.proofs.Measured.{none-measured}
use Rattle.distances.proofs.measure.Goals as goal

pub loop-init : goal.loop-init
loop-init c =
    let e : c.fill.new.self ≡ replicate (length c.args.far.now) 255 = grind (arith, common_steps) in
    none-measured _ _ _ _ e

pub loop-preserved : goal.loop-preserved
loop-preserved c = c.sweep.ensures.not_below_2
