-- When a board can be: refusal 25 is given for every other.
-- Assumes nothing.
use Rattle.std.specs.Prelude.{◌≡◌, true, List, ℕ, ◌<◌}
use Rattle.table.specs.Table.{type_of, rows_of, actions_of, WellFormed}
use Rattle.places.specs.Places.{taken}
use Rattle.view.specs.View.{View}
use Rattle.places.specs.declared.Case.{Case}
use Rattle.places.specs.declared.Case.TheVariants.{Empty, Enforced, Watched, Fulfilled}

-- A table passes 10 and its type and row fit the case.
pub record TableOfType (table : List ℕ) (type : ℕ) : Type 0 where
  pub formed : WellFormed table
  pub typed : type_of table ≡ type

abbrev pub CaseFits : List ℕ → Case → Type 0
CaseFits table Empty = Unit {0}
CaseFits table (Enforced row) = TableOfType table 1 × (row < rows_of table)
CaseFits table (Watched row) = TableOfType table 2 × (row < rows_of table)
CaseFits table Fulfilled = TableOfType table 2

-- Every taken place fits, and all taken places have one number of actions.
pub record Possible (places : ℕ) (view : View) : Type 0 where
  pub fits : (i : ℕ) → i < places → CaseFits (view.table i) (view.case i)
  pub one : (i j : ℕ) → i < places → j < places → taken (view.case i) ≡ true → taken (view.case j) ≡ true → actions_of (view.table i) ≡ actions_of (view.table j)
