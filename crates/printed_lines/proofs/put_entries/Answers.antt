-- The goal of `printed_lines::put_entries` that the check leaves.
use mathlib.Core.List.{append_assoc}
use native.Mathlib.Numerals.{add-one}
use Rattle.printed_lines.proofs.put_entries.Goals as goal

pub loop-k-preserved : goal.loop-k-preserved
loop-k-preserved g c = rw add-one (simp (c.put_next.ensures, c.loop-k.invariant, append_assoc))
