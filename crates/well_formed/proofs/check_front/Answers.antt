-- The goals of `well_formed::check_front` that the check leaves: the entries read are those of the table at the front.
use Rattle.std.proofs.Common.{◌≡◌, ◌+◌, ◌*◌, length, drop, refl, ◌∙◌, arith}
use lib.Seq.{length-take-le}
use Rattle.table.specs.Table.{table_length, front_table}
use Rattle.table.specs.Answer.{FieldsOf}
use Rattle.table.proofs.Formed.{formed, misfit, front-fields, front_length, front-entries}
use Rattle.well_formed.proofs.check_front.Goals as goal
use Rattle.well_formed.proofs.check_front.Goals.{In_ok-entries}

module _ (c : In_ok-entries) where
  front : FieldsOf (front_table c.args.bytes.now) c.in_ok-header.header
  front = front-fields _ _ c.in_ok-header.ensures

  entries : c.in_ok-entries.entries.now ≡ drop 8 (front_table c.args.bytes.now)
  entries = c.in_ok-entries.ensures.lookup.0.2 ∙ front-entries c.args.bytes.now _ _ front refl

  whole : length (front_table c.args.bytes.now) ≡ 8 + c.in_ok-header.header.rows * c.in_ok-header.header.actions
  whole =
      let size = front_length c.args.bytes.now _ front in
      length-take-le (table_length c.args.bytes.now) c.args.bytes.now (omega (arith, size, c.in_ok-entries.ensures.lookup.0.1)) ∙ size

pub returns-then-entries_fit : goal.returns-then-entries_fit
returns-then-entries_fit c =
    let at = (goal.at.returns-then-entries_fit c).In_ok-entries in
    formed _ _ (front at) (whole at) (rw (entries at) at c.if-entries_fit.ensures)

pub returns-else-entries_fit : goal.returns-else-entries_fit
returns-else-entries_fit c =
    let at = (goal.at.returns-else-entries_fit c).In_ok-entries in
    misfit _ _ (front at) (rw (entries at) at c.if-entries_fit.ensures)
