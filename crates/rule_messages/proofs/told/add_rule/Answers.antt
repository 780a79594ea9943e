-- `rule_messages::told::add_rule` meets its contract.
use Rattle.messages.proofs.Adding.{adds-as}
use Rattle.rule_messages.proofs.Choosing.{no-rule, some-rule}
use borrow.Author.Rules.{rules}
use Rattle.rule_messages.proofs.told.add_rule.Goals as goal

pub returns-then-rule-eq0 : goal.returns-then-rule-eq0
returns-then-rule-eq0 c = adds-as (no-rule c.args.rule (search rules)) c.add.ensures

pub returns : goal.returns
returns c = adds-as (some-rule c.args.rule (search rules)) c.fill.ensures
