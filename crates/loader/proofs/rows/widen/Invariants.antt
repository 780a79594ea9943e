-- `loader::rows::widen` meets its contract. The loop's invariant: `next` has the entries below k, and then what was there.
use Rattle.std.proofs.Common.{length, get_or}
use Rattle.base.proofs.Stored.{Stored}
use Rattle.loader.proofs.rows.widen.Given as goal

abbrev pub invariant-loop-k : goal.invariant-loop-k
invariant-loop-k l = Stored (λ j. get_or l.entries j 0) (length l.entries) l.initial.next l.next l.k
