-- `told_messages::told::add_of_rule` meets its contract.
use Rattle.messages.proofs.Adding.{adds_then}
use Rattle.told_messages.proofs.told.add_of_rule.Goals as goal

pub returns : goal.returns
returns g c = adds_then c.add_rule-next.ensures c.add_message.ensures
