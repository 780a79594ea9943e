-- `naive_texts::layout::count_below` meets its contract. Each part has fewer than 256 nodes with those below it.
use Rattle.std.proofs.Common.{◌≤◌, ◌*◌}
use Rattle.naive_texts.proofs.layout.count_below.Given as goal

abbrev pub invariant-loop-part : goal.invariant-loop-part
invariant-loop-part l = l.count ≤ 256 * l._part
