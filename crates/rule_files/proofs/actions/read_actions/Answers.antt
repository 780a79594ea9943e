-- `rule_files::actions::read_actions` meets its contract: the word that is refused is one of what was left of the list.
use Rattle.rule_files.proofs.Standing.{word_left}
use Rattle.rule_files.proofs.actions.read_actions.Goals as goal

pub returns-in_default : goal.returns-in_default
returns-in_default c = word_left c.loop-behind.invariant.2 c.in-Some.ensures.steps.0
