-- `lexer::words::word_end` meets its contract. The loop's invariant: the bytes from `from` up to k are no blanks.
use Rattle.lexer.proofs.Scanning.{Run}
use Rattle.lexer.proofs.words.word_end.Given as goal

abbrev pub invariant-loop-k : goal.invariant-loop-k
invariant-loop-k l = Run l.text l.from l.k
