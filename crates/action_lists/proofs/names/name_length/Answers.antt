-- `action_lists::names::name_length` meets its contract.
use Rattle.std.proofs.Common.{sym, ap, ◌∙◌}
use Rattle.action_lists.specs.ActionLists.{is_name}
use Rattle.action_lists.proofs.Naming.{own-name, no-own-name}
use Rattle.action_lists.proofs.names.name_length.Goals as goal

pub returns-then-is_name : goal.returns-then-is_name
returns-then-is_name c = own-name c.name_end-end.ensures (ap is_name (sym c.front.ensures) ∙ sym c.is_name.ensures ∙ c.if-is_name.true)

pub returns-else-is_name : goal.returns-else-is_name
returns-else-is_name c = no-own-name c.name_end-end.ensures (ap is_name (sym c.front.ensures) ∙ sym c.is_name.ensures ∙ c.if-is_name.false)
