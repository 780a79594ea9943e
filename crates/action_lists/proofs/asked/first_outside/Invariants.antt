-- `action_lists::asked::first_outside` meets its contract. The loop's invariant: the numbers before the place are below the bound.
use Rattle.std.proofs.Common.{ℕ, ◌<◌, get_or}
use Rattle.action_lists.proofs.asked.first_outside.Given as goal

abbrev pub invariant-loop-place : goal.invariant-loop-place
invariant-loop-place l = (j : ℕ) → j < l.place → get_or l.list j 0 < l.actions
