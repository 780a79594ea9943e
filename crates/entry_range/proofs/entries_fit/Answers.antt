-- `entry_range::entries_fit` meets its contract.
use Rattle.std.proofs.Common.{refl}
use Rattle.entry_range.proofs.EntriesRange.{largest-decides}
use Rattle.entry_range.proofs.entries_fit.Goals as goal

pub returns : goal.returns
returns c = rw c.from.ensures (largest-decides _ _ _ _ c.top_of_any.ensures refl)
