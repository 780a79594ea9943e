-- `quotient::quotient` meets its contract. The invariants: the quotient's entries so far, and then what was there.
use Rattle.std.proofs.Common.{◌+◌, ◌*◌}
use Rattle.automaton.specs.Quotient.{quotient_entry}
use Rattle.base.proofs.Stored.{Stored}
use Rattle.quotient.proofs.quotient.Given as goal

abbrev pub invariant-loop-row : goal.invariant-loop-row
invariant-loop-row l =
    Stored (quotient_entry l.actions l.next l.classes l.firsts) (l.count * l.actions) l.fn.out l.out (l.row * l.actions)

abbrev pub invariant-loop-action : goal.invariant-loop-action
invariant-loop-action l =
    Stored (quotient_entry l.actions l.next l.classes l.firsts) (l.count * l.actions) l.fn.out l.out (l.row * l.actions + l.action)
