-- `action_lists::names::action_name` meets its contract.
use Rattle.std.proofs.Common.{◌∙◌}
use Rattle.action_lists.proofs.names.action_name.Goals as goal

pub returns : goal.returns
returns c = c.of.ensures ∙ c.name_at.ensures.name
