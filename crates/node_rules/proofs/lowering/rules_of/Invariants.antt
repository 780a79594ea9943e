-- `node_rules::lowering::rules_of` meets its contract. The loop's invariant: the array has the rules of the used policy nodes before n.
use mathlib.Core.Path.{◌≡◌}
use Rattle.node_rules.specs.Lowering.{rules_of}
use Rattle.node_rules.proofs.lowering.rules_of.Given as goal

abbrev pub invariant-loop-n : goal.invariant-loop-n
invariant-loop-n l = l.rules ≡ rules_of l.sheet.nodes l.types l.sets l.sheet.actions l.n
