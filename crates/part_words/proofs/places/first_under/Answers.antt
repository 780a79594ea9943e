-- The goals of `part_words::places::first_under` that the check leaves.
use mathlib.Core.Path.{refl, sym, ap, ◌∙◌}
use Prim.Native.Nat.{◌<◌, ◌≤◌}
use native.Mathlib.Omega.{arith}
use Rattle.part_words.specs.Places.{first_part, first_under}
use Rattle.part_words.proofs.PlaceLaws.{goes_on, stops}
use Rattle.part_words.proofs.places.first_under.Goals as goal

pub loop-part-preserved : goal.loop-part-preserved
loop-part-preserved c =
    let l = c.loop-part in
    let i = l.invariant in
    let sheet = c.args.sheet.now in
    let less : first_part sheet l.first < l.first = omega (arith, i.0) in
    (c.first_part-part-in-loop-part.ensures, ap (first_under sheet) i.0 ∙ goes_on sheet l.first less ∙ i.1)

pub returns : goal.returns
returns c =
    let l = c.loop-part in
    let i = l.invariant in
    let sheet = c.args.sheet.now in
    let high : l.first ≤ first_part sheet l.first = omega (arith, i.0) in
    sym (stops sheet l.first high) ∙ i.1

pub loop-part-init : goal.loop-part-init
loop-part-init c = (c.first_part-part.ensures, refl)
