-- `base::copy` meets its contract. The loop's invariant: `to` has the elements of `from` below k, and then what was there.
use lib.ListN.{length, get_or}
use Rattle.base.proofs.Stored.{Stored}
use Rattle.base.proofs.copy.Given as goal

abbrev pub invariant-loop-k : goal.invariant-loop-k
invariant-loop-k l = Stored (λ j. get_or l.from j 0) (length l.from) l.initial.to l.to l.k
