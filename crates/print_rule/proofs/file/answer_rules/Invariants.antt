-- `print_rule::file::answer_rules` is safe. The loop's invariant: the tables so far are no longer than 1,032 bytes a rule.
use Prim.Native.Nat.{◌+◌, ◌*◌, ◌≤◌}
use mathlib.Core.Path.{◌≡◌}
use lib.ListN.{length}
use Rattle.print_rule.proofs.file.answer_rules.Given as goal

abbrev pub invariant-loop-number : goal.invariant-loop-number
invariant-loop-number g l = (l.end + 1032 ≤ 1032 * l.number) × (l.from ≤ length l.file) × (length l.tables ≡ 8256)
