-- `naive_texts::layout::write_node` meets its contract. Each part has fewer than 256 nodes with those below it.
use Rattle.std.proofs.Common.{◌≤◌, ◌*◌}
use Rattle.naive_texts.proofs.layout.write_node.Given as goal

abbrev pub invariant-loop-part : goal.invariant-loop-part
invariant-loop-part l = l.done ≤ 256 * l.part
