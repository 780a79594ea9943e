-- `explaining::reading::first_trip` meets its contract. The loop's invariant: the front before the place does not trip, and leads to `row`.
use mathlib.Core.Path.{◌≡◌}
use Prim.Native.Nat.{◌<◌}
use lib.ListN.{take}
use Rattle.trace.specs.Trace.{go, run}
use Rattle.rules.specs.Rules.{part_at}
use Rattle.explaining.proofs.reading.first_trip.Given as goal

abbrev pub invariant-loop-place : goal.invariant-loop-place
invariant-loop-place l = (l.row < 64) × (run (part_at l.parts.actions l.parts.work.now l.node) (go 0) (take l.place l.list) ≡ go l.row)
