-- `part_words::denier::add_rule` meets its contract.
use borrow.Author.Rules.{rules}
use Rattle.messages.proofs.Adding.{adds_none, adds-as}
use Rattle.part_words.proofs.DenierLaws.{no-rule, some-rule}
use Rattle.part_words.proofs.denier.add_rule.Goals as goal

pub returns-then-rule-eq0 : goal.returns-then-rule-eq0
returns-then-rule-eq0 c = adds-as (no-rule _ (search rules)) (adds_none _ _)

pub returns : goal.returns
returns c = adds-as (some-rule _ (search rules)) c.say.ensures
