-- `naive::nodes::used_of` meets its contract. The last node is marked first, and stays so.
use Rattle.std.proofs.Common.{◌≡◌, ◌-◌, length, get_or, true, false}
use Rattle.naive.proofs.nodes.used_of.Given as goal

abbrev pub invariant-loop-n : goal.invariant-loop-n
invariant-loop-n l = get_or l.used (length l.nodes - 1) false ≡ true
