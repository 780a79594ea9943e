-- `action_lists::asked::read_list` meets its contract. The loop's invariant: the actions of the first words are read, and those from `at` on are left.
use lib.ListN.{length}
use Rattle.grammar.specs.Words.{words_of}
use Rattle.lexer.specs.Next.{words_from}
use Rattle.action_lists.proofs.Asking.{Asked}
use Rattle.action_lists.proofs.asked.read_list.Given as goal

abbrev pub invariant-loop-count : goal.invariant-loop-count
invariant-loop-count l = Asked (words_of l.names) (words_of l.line) (words_from l.line l.at) (length l.initial.list) l.list l.count
