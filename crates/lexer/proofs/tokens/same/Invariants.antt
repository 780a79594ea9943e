-- `lexer::tokens::same` meets its contract. The loop's invariant: the words are equally long, and they are the same if they are from k on.
use mathlib.Core.Path.{◌≡◌}
use Prim.Native.Nat.{◌≤◌}
use lib.ListN.{length, drop}
use Rattle.grammar.specs.Spelling.{same}
use Rattle.lexer.proofs.tokens.same.Given as goal

abbrev pub invariant-loop-k : goal.invariant-loop-k
invariant-loop-k l = (l.k ≤ length l.word) × (length l.word ≡ length l.other) × (same l.word l.other ≡ same (drop l.k l.word) (drop l.k l.other))
