-- `fields::field_at` meets its contract. The loop's invariant: from `from` on the field after those that are left to pass is the one that is looked for.
use Rattle.std.proofs.Common.{◌≡◌, [], ◌-◌, ◌≤◌, length, get_or}
use Rattle.fields.specs.Fields.{split_by, fields_from}
use Rattle.fields.proofs.field_at.Given as goal

abbrev pub invariant-loop-passed : goal.invariant-loop-passed
invariant-loop-passed l =
    (l.from ≤ length l.bytes) × (get_or (fields_from l.mark l.bytes l.from) (l.number - l.passed) [] ≡ get_or (split_by l.mark l.bytes) l.number [])
