-- `sheet_reading::reading::read_actions` meets its contract. The loop's invariant: the array has the entries before a.
use mathlib.Core.Path.{◌≡◌}
use Rattle.sheet_reading.specs.Reading.{read_actions}
use Rattle.sheet_reading.proofs.reading.read_actions.Given as goal

abbrev pub invariant-loop-a : goal.invariant-loop-a
invariant-loop-a l = read_actions l.bytes l.a ≡ l.propositions
