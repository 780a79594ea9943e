-- `part_words::propositions::is_named` meets its contract.
use mathlib.Core.Path.{◌≡◌}
use Prim.Native.Nat.{◌≤◌}
use Rattle.part_words.specs.Propositions.{named_below}
use Rattle.part_words.proofs.propositions.is_named.Given as goal

abbrev pub invariant-loop-node : goal.invariant-loop-node
invariant-loop-node l = (l.node ≤ 64) × (l.found ≡ named_below l.sheet l.p l.node)
