-- `rule_lines::rule_end` meets its contract.
use mathlib.Core.Path.{◌≡◌}
use Prim.Native.Nat.{◌+◌, ◌-◌, ◌≤◌}
use lib.ListN.{length}
use Rattle.fields.specs.Fields.{fields_from}
use Rattle.rule_lines.specs.RuleFiles.{rule_length}
use Rattle.rule_lines.proofs.rule_end.Given as goal

abbrev pub invariant-loop-from : goal.invariant-loop-from
invariant-loop-from l = (l.from ≤ l.k) × (l.k ≤ length l.file) × (l.from + rule_length (fields_from 10 l.file l.from) ≡ l.k + rule_length (fields_from 10 l.file l.k))

abbrev pub decreases-loop-from : goal.decreases-loop-from
decreases-loop-from l = length l.file - l.k
