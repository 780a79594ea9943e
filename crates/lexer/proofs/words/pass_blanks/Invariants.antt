-- `lexer::words::pass_blanks` meets its contract. The loop's invariant: the words from k on are those from `at` on.
use mathlib.Core.Path.{◌≡◌}
use Rattle.lexer.specs.Next.{words_from}
use Rattle.lexer.proofs.words.pass_blanks.Given as goal

abbrev pub invariant-loop-k : goal.invariant-loop-k
invariant-loop-k l = words_from l.text l.at ≡ words_from l.text l.k
