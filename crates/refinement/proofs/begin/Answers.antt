-- `refinement::begin` meets its contract: the classes of one distance, where they are found; else one class.
use Rattle.std.proofs.Common.{◌≡◌, ℕ, length, replicate, subst, arith}
use Rattle.std.proofs.lemmas.Grind.{common_steps}
use Rattle.refinement.specs.Refining.{BeginsWith}
use Rattle.refinement.proofs.Beginning.{begins-with}
use Rattle.refinement.proofs.Refining.{one-refining}
use Rattle.refinement.proofs.begin.Goals as goal

-- the distances are found
pub returns-then-measure : goal.returns-then-measure
returns-then-measure c =
    let paired : length c.measure.new.far ≡ length c.args.classes.now = omega (arith, c.requires.paired) in
    subst (λ (n : ℕ). BeginsWith n c.args.machine.actions c.args.limit c.args.machine.next.now c.split.result c.split.new.classes) paired
    (begins-with _ _ _ c.measure.new.far _ c.split.new.firsts (c.measure.ensures c.if-measure.true) (omega arith) _ c.split.ensures)

-- they are not
pub returns : goal.returns
returns c =
    let e : c.fill.new.self ≡ replicate (length c.args.classes.now) 0 = grind (arith, common_steps) in
    one-refining _ _ _ _ _ c.requires.positive c.requires.some e
