-- `naive_texts::words::expect_parts` meets its contract. At most one thing more is to come for each part.
use Rattle.std.proofs.Common.{◌≤◌, ◌+◌}
use Rattle.naive_texts.proofs.words.expect_parts.Given as goal

abbrev pub invariant-loop-i : goal.invariant-loop-i
invariant-loop-i l = l.depth ≤ l.before + l.i
