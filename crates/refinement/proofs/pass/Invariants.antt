-- `refinement::pass` meets its contract. The loop's invariant: the states below s are split by their signatures.
use Rattle.std.proofs.Common.{◌≤◌}
use Rattle.automaton.specs.Partition.{SameSignature, Partition}
use Rattle.automaton.proofs.Rising.{Risen}
use Rattle.refinement.proofs.pass.Given as goal

abbrev pub invariant-loop-s : goal.invariant-loop-s
invariant-loop-s l =
    record {
      few : l.count ≤ l.limit;
      split : Partition (SameSignature l.machine.actions l.machine.next.now l.classes) l.s l.count l.finer l.firsts;
      risen : Risen l.classes l.finer l.s;
    }
