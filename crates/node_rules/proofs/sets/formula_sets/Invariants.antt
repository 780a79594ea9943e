-- `node_rules::sets::formula_sets` meets its contract. The loop's invariant: the array has the sets of the used formula nodes before n.
use mathlib.Core.Path.{◌≡◌}
use lib.ListN.{length}
use Rattle.node_rules.specs.FormulaSets.{first_sets}
use Rattle.node_rules.proofs.sets.formula_sets.Given as goal

abbrev pub invariant-loop-n : goal.invariant-loop-n
invariant-loop-n l = (l.sets ≡ first_sets l.sheet l.types l.n) × (length l.sets ≡ 64)
