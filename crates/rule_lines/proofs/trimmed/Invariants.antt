-- `rule_lines::trimmed` meets its contract. The loop's invariant: there are blanks from k on.
use Rattle.std.proofs.Common.{◌≡◌, ℕ, ◌≤◌, ◌<◌, length, get_or, true}
use Rattle.grammar.specs.Words.{is_blank}
use Rattle.rule_lines.proofs.trimmed.Given as goal

abbrev pub invariant-loop-k : goal.invariant-loop-k
invariant-loop-k l = (i : ℕ) → l.k ≤ i → i < length l.text → is_blank (get_or l.text i 0) ≡ true
