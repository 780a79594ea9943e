-- `printed_lines::put_entries` meets its contract. The loop's invariant: the first k entries are written.
use mathlib.Core.Path.{◌≡◌}
use mathlib.Core.List.{◌++◌}
use Rattle.printed_lines.specs.Text.{entries_text}
use Rattle.printed_lines.proofs.put_entries.Given as goal

abbrev pub invariant-loop-k : goal.invariant-loop-k
invariant-loop-k g l = l.text ≡ l.initial.text ++ entries_text l.row l.k
