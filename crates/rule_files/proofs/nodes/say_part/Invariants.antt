-- `rule_files::nodes::say_part` is safe. The loop's invariant: each node that is said takes one off the stack, and puts three on at the most.
use Prim.Native.Nat.{◌+◌, ◌*◌, ◌≤◌}
use mathlib.Core.Path.{◌≡◌}
use lib.ListN.{length}
use Rattle.rule_files.proofs.nodes.say_part.Given as goal

abbrev pub invariant-loop-said : goal.invariant-loop-said
invariant-loop-said g l = (l.count ≤ 1 + 2 * l.said) × (length l.stack ≡ 132)
