-- `rule_messages::told::add_place` meets its contract.
use Rattle.messages.proofs.Adding.{adds_then}
use Rattle.rule_messages.proofs.told.add_place.Goals as goal

pub returns : goal.returns
returns c = adds_then c.add_rule-next.ensures c.fill.ensures
