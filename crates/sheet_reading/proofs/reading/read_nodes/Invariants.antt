-- `sheet_reading::reading::read_nodes` meets its contract. The loop's invariant: the nodes before n are read, and the array has them.
use mathlib.Core.Path.{◌≡◌}
use Rattle.sheet_reading.specs.Reading.{all_read, read_nodes}
use Rattle.sheet_reading.proofs.reading.read_nodes.Given as goal

abbrev pub invariant-loop-n : goal.invariant-loop-n
invariant-loop-n l = read_nodes l.bytes l.n ≡ all_read l.nodes
