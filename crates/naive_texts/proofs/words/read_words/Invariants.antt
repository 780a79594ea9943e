-- `naive_texts::words::read_words` meets its contract. At most one word is read up to each byte.
use Rattle.std.proofs.Common.{◌≤◌, ◌+◌, ◌*◌}
use Rattle.naive_texts.proofs.words.read_words.Given as goal

abbrev pub invariant-loop-i : goal.invariant-loop-i
invariant-loop-i l = record {
  words : l.reading.words ≤ l.i;
  nodes : l.reading.nodes ≤ l.i;
  depth : l.reading.depth ≤ 3 * l.i + 1;
  from : l.from ≤ l.i;
}
