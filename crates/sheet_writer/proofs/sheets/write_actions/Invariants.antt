-- `sheet_writer::sheets::write_actions` meets its contract. The loop's invariant: the entries before a are written.
use mathlib.Core.Path.{◌≡◌}
use lib.ListN.{length}
use lib.Seq.{sets}
use Rattle.sheet_writer.specs.Bytes.{action_bytes}
use Rattle.sheet_writer.proofs.sheets.write_actions.Given as goal

abbrev pub invariant-loop-a : goal.invariant-loop-a
invariant-loop-a l = (length l.out ≡ length l.initial.out) × (l.out ≡ sets l.initial.out l.from (action_bytes l.actions l.a))
