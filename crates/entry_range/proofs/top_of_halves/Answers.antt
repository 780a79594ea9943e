-- The goal of `entry_range::top_of_halves` that the check leaves.
use Rattle.std.proofs.Common.{arith}
use Rattle.entry_range.proofs.EntriesRange.{both-all}
use Rattle.entry_range.proofs.top_of_halves.Goals as goal

pub returns : goal.returns
returns c = both-all _ _ c.loop-k.k _ (omega arith) (omega arith) c.loop-k.invariant
