-- `naive::sequences::spell` meets its contract. The measure is the room in front of the letters.
use Rattle.std.proofs.Common.{◌≤◌, length}
use Rattle.naive.proofs.sequences.spell.Given as goal

abbrev pub invariant-loop-rest : goal.invariant-loop-rest
invariant-loop-rest l = l.from ≤ length l.letters

abbrev pub decreases-loop-rest : goal.decreases-loop-rest
decreases-loop-rest l = l.from
