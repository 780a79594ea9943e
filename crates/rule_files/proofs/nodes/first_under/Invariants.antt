-- `rule_files::nodes::first_under` is safe and ends. The measure is the node reached, which falls with each turn.
use Prim.Native.Nat.{◌≤◌}
use Rattle.rule_files.proofs.nodes.first_under.Given as goal

abbrev pub invariant-loop-first : goal.invariant-loop-first
invariant-loop-first l = l.first ≤ l.node

abbrev pub decreases-loop-first : goal.decreases-loop-first
decreases-loop-first l = l.first
