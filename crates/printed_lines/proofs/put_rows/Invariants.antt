-- `printed_lines::put_rows` meets its contract. The loop's invariant: the first rows are written.
use mathlib.Core.Path.{◌≡◌}
use mathlib.Core.List.{◌++◌}
use Rattle.printed_lines.specs.Text.{row_lines}
use Rattle.printed_lines.proofs.put_rows.Given as goal

abbrev pub invariant-loop-row : goal.invariant-loop-row
invariant-loop-row g l = l.text ≡ l.initial.text ++ row_lines l.actions l.row l.entries
