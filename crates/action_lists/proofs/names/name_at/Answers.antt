-- `action_lists::names::name_at` meets its contract.
use Rattle.action_lists.proofs.Naming.{name-stands}
use Rattle.action_lists.proofs.names.name_at.Goals as goal

pub returns : goal.returns
returns c = name-stands c.word_at-from.ensures c.name_length.ensures
