-- `print_denial::list::read_names` meets its contract: the word that is refused is one of what was left of the names.
use Rattle.rule_files.proofs.Standing.{word_left}
use Rattle.print_denial.proofs.list.read_names.Goals as goal

pub returns-then-doubled : goal.returns-then-doubled
returns-then-doubled c = word_left c.loop-behind.invariant.2 c.in-Some.ensures.steps.0
