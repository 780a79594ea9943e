-- `told_messages::told::add_rule` meets its contract.
use Rattle.messages.proofs.Adding.{adds_none, adds-as}
use Rattle.told_messages.proofs.Telling.{no-rule, some-rule}
use borrow.Author.Rules.{rules}
use Rattle.told_messages.proofs.told.add_rule.Goals as goal

pub returns-then-rule-eq0 : goal.returns-then-rule-eq0
returns-then-rule-eq0 c = adds-as (no-rule c.args.rule (search rules)) (adds_none _ _)

pub returns : goal.returns
returns c = adds-as (some-rule c.args.rule (search rules)) c.add_message.ensures
