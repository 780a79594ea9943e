-- `rule_files::words::word_behind` is safe. The loop's invariant: `from` stays within the text.
use Prim.Native.Nat.{◌≤◌}
use lib.ListN.{length}
use Rattle.rule_files.proofs.words.word_behind.Given as goal

abbrev pub invariant-loop : goal.invariant-loop
invariant-loop l = l.from ≤ length l.text
