-- `corpus::reports::show` meets its contract. No more counts are written than were passed.
use Rattle.std.proofs.Common.{◌≤◌}
use Rattle.corpus.proofs.reports.show.Given as goal

abbrev pub invariant-loop-number : goal.invariant-loop-number
invariant-loop-number g l = l.shown ≤ l.number
