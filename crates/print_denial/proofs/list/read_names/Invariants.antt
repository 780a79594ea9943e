-- `print_denial::list::read_names` meets its contract. The loop's invariant: the words that are not read yet are those of what is left of the names.
use Rattle.rule_files.specs.Standing.{EndsWith}
use Rattle.print_denial.proofs.list.read_names.Given as goal

abbrev pub invariant-loop-behind : goal.invariant-loop-behind
invariant-loop-behind l =
    goal.iterator-loop-behind.can_next l.behind-iterator
    × goal.iterator-loop-behind.is_finite l.behind-iterator
    × EndsWith l.names l.behind-iterator.iter.rest.now
