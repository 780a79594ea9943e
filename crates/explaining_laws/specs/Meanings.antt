-- Sheets by what their policies say.
-- Assumes nothing.
use Rattle.std.specs.Prelude.{◌≡◌, ◌&&◌, List, ℕ}
use Rattle.trace.specs.Trace.{Sequence}
use Rattle.syntax.specs.declared.Sheet.{Sheet}
use Rattle.board_policies.specs.Policies.{satisfies_sheet}

-- The policy of the first sheet says what those of the other two say together, as their And does.
pub record SaysBoth (sheet one other : Sheet) : Type 0 where
  pub same : (w : List ℕ) → Sequence sheet.actions w → satisfies_sheet sheet w ≡ (satisfies_sheet one w && satisfies_sheet other w)
