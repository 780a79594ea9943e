-- `node_rules::sets::proposition_set` meets its contract. The loop's invariant: the set has the actions before `a` that satisfy the proposition.
use mathlib.Core.Path.{◌≡◌}
use Rattle.node_rules.specs.FormulaSets.{proposition_set}
use Rattle.node_rules.proofs.sets.proposition_set.Given as goal

abbrev pub invariant-loop-a : goal.invariant-loop-a
invariant-loop-a l = l.set ≡ proposition_set l.sheet.propositions l.a l.p
