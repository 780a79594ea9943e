-- `reached::reached_from` meets its contract. The loop's invariant: what is left to do with the set gives the whole set.
use mathlib.Core.Path.{◌≡◌}
use Prim.Native.Nat.{suc, ◌≤◌}
use Rattle.reached.specs.Reached.{spread, reached_set}
use Rattle.reached.specs.Parts.{part_sets}
use Rattle.reached.proofs.reached_from.Given as goal

abbrev pub invariant-loop-n : goal.invariant-loop-n
invariant-loop-n g l = (l.n ≤ l.from) × (spread (part_sets g.by l.nodes) l.set (suc l.n) ≡ reached_set (part_sets g.by l.nodes) l.from)
