-- `part_words::places::words_before` meets its contract. The loop's invariant: the words of the first k nodes are counted.
use mathlib.Core.Path.{◌≡◌}
use Prim.Native.Nat.{◌+◌, ◌*◌, ◌≤◌}
use Rattle.part_words.specs.Places.{words_among}
use Rattle.part_words.proofs.places.words_before.Given as goal

abbrev pub invariant-loop-k : goal.invariant-loop-k
invariant-loop-k l = (l.k ≤ l.count) × (l.words ≡ 1 + words_among l.sheet l.node l.k) × (l.words ≤ 1 + 2 * l.k)
