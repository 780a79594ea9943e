-- `rule_files::nodes::words_before` is safe. The loop's invariant: a node is two words at the most.
use Prim.Native.Nat.{◌+◌, ◌*◌, ◌≤◌}
use Rattle.rule_files.proofs.nodes.words_before.Given as goal

abbrev pub invariant-loop-other : goal.invariant-loop-other
invariant-loop-other l = l.words ≤ 1 + 2 * l.other
