-- `scan::survey::rule_in` meets its contract: where the action is in the list, its entry stands within the bytes.
use mathlib.Core.Path.{◌≡◌, ap}
use Prim.Native.Nat.{◌<◌}
use native.Mathlib.Omega.{arith}
use borrow.Author.Rules.{rules}
use Rattle.table.specs.declared.Header.{Header}
use Rattle.table.specs.Table.{rows_of, front_table}
use Rattle.table.specs.Answer.{mode_number, FormedAs}
use Rattle.scan.proofs.Parts.{index-within, entry-within}
use Rattle.scan.proofs.Seeing.{reads-fits}
use Rattle.scan.proofs.survey.rule_in.Goals as goal
use Rattle.scan.proofs.survey.rule_in.Goals.{Else-actions-action}

module _ (c : Else-actions-action) where
  abbrev header : Header
  header = c.in_ok-header.header

  formed : FormedAs (front_table c.args.part.now) header
  formed = c.in_ok-header.ensures

  low : c.from-at_row.result < rows_of (front_table c.args.part.now)
  low = omega (arith, c.if-header-at_row.false, formed.fields.rowed)

  same_mode : header.mode ≡ c.args.mode
  same_mode = search rules

pub bounds-part-at : goal.bounds-part-at
bounds-part-at c =
    let e = (goal.at.bounds-part-at c).Else-actions-action in
    omega (arith, index-within c.args.part.now _ _ _ (formed e).formed (formed e).fields.acting (low e) c.if-actions-action.false)

pub returns : goal.returns
returns c =
    let e = (goal.at.returns c).Else-actions-action in
    let row : c.args.row < c.in_ok-header.header.rows = omega (arith, c.if-header-at_row.false, c.from-at_row.ensures) in
    rw c.from-at_row.ensures
    (reads-fits _ _ (formed e) _ _ (ap mode_number (same_mode e)) row _ _
    (λ h. entry-within _ _ _ _ (formed e).formed (formed e).fields.acting (omega (arith, low e, c.from-at_row.ensures)) h))
