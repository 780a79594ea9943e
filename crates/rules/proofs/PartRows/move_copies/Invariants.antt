-- `rules::PartRows::move_copies` meets its contract. The loop's invariant: the rows moved so far and the rows left make up the whole move.
-- The measure is the set of the rows left.
use Rattle.rules.specs.Rules.{part_at}
use Rattle.rules.proofs.Moves.{Moving}
use Rattle.rules.proofs.PartRows.move_copies.Given as goal

abbrev pub invariant-loop-rest : goal.invariant-loop-rest
invariant-loop-rest l = Moving (part_at l.self.actions l.self.work.now l.i) 64 l.set l.action l.moved l.rest

abbrev pub decreases-loop-rest : goal.decreases-loop-rest
decreases-loop-rest l = l.rest
