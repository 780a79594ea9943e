-- `distances::split` meets its contract. The loop's invariant: the states below s are split by their numbers, and the class of each number is known.
use Rattle.std.proofs.Common.{◌≤◌}
use Rattle.distances.specs.Distances.{SameNumber}
use Rattle.automaton.specs.Partition.{Partition}
use Rattle.distances.proofs.Numbers.{Known}
use Rattle.distances.proofs.split.Given as goal

abbrev pub invariant-loop-s : goal.invariant-loop-s
invariant-loop-s l =
    record {
      few : l.count ≤ l.limit;
      split : Partition (SameNumber l.numbers) l.s l.count l.classes l.firsts;
      known : Known l.numbers l.firsts l.count l.known;
    }
