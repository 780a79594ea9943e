-- `scan::pass::scan` meets its contract. The loop's invariant: what the pass gives of the places below i.
use Prim.Native.Nat.{◌<◌, ◌^◌}
use Rattle.view.specs.View.{view_in}
use Rattle.scan.specs.Scans.{Scans}
use Rattle.scan.proofs.pass.scan.Given as goal

abbrev pub invariant-loop-i : goal.invariant-loop-i
invariant-loop-i l =
    Scans l.i (view_in l.old l.area) l.action (record { actions = l.actions; places = l.places; denying = l.denying; fulfilled = l.fulfilled })
    × (l.denying < 2 ^ l.i) × (l.fulfilled < 2 ^ l.i)
