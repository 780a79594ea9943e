-- The goal of `entry_range::top_of` that the check leaves.
use Rattle.std.proofs.Common.{ap, ◌∙◌}
use Rattle.base.proofs.Lists.{get_or-within}
use Rattle.entry_range.specs.Largest.{one_past}
use Rattle.entry_range.proofs.EntriesRange.{largest-more}
use Rattle.entry_range.proofs.top_of.Goals as goal

pub loop-entry-preserved : goal.loop-entry-preserved
loop-entry-preserved c =
    let read = get_or-within c.args.entries.now c.loop-entry.entry-index 0 255 c.loop-entry-test.true in
    rw c.max-top.ensures (largest-more _ _ _ _ c.loop-entry.invariant (c.one_past.ensures ∙ ap one_past read))
