-- Tables to be joined that are compiled from sheets.
-- Assumes nothing.
use Rattle.std.specs.Prelude.{◌≡◌, true, List, ◌↔◌, ℕ, ◌<◌}
use Rattle.trace.specs.Trace.{Sequence}
use Rattle.syntax.specs.declared.Sheet.{Sheet}
use Rattle.board_policies.specs.Policies.{CompiledFrom, satisfies_sheet}
use Rattle.joining.specs.Tables.{table_at}

-- A sheet for each of the tables.
abbrev pub FromSheets : (count : ℕ) → List ℕ → Type 0
FromSheets count input = (i : ℕ) → i < count → CompiledFrom (table_at input i)

-- The sequence satisfies the policies of all of them.
abbrev pub AllPolicies : (count : ℕ) (input : List ℕ) → FromSheets count input → List ℕ → Type 0
AllPolicies count input sheets w = (i : ℕ) (h : i < count) → satisfies_sheet (sheets i h).sheet w ≡ true

-- A sheet's policy is satisfied exactly where those of all of them are.
pub record SaysAll (actions : ℕ) (sheet : Sheet) (count : ℕ) (input : List ℕ) (sheets : FromSheets count input) : Type 0 where
  pub same : (w : List ℕ) → Sequence actions w → (satisfies_sheet sheet w ≡ true) ↔ AllPolicies count input sheets w
