-- What the table loader answers, in the numbers of docs/FORMATS.md, "Refusals".
-- Assumes nothing.
use Rattle.std.specs.Prelude.{◌≡◌, List, ℕ, Option, Some, None, Result, Ok, Err}
use Rattle.table.specs.Table.{type_of, actions_of, rows_of, HeaderFits, WellFormed, Canonical, Accepted}
use Rattle.trace.specs.declared.Mode.{Mode}
use Rattle.trace.specs.declared.Mode.TheVariants.{Enforced, Watched}
use Rattle.table.specs.declared.Header.{Header}
use Rattle.table.specs.declared.LoadError.{LoadError}
use Rattle.table.specs.declared.LoadError.TheVariants.{Malformed, NotCanonical}

-- An answer (docs/FORMATS.md, "Answers"): an accepted table's type, actions and rows, or a refusal's number and spot.
pub data Answer : Type 0 where
  accepted : (type actions rows : ℕ) → Answer
  refused : (number spot : ℕ) → Answer

-- The type's number in a table's header.
abbrev pub mode_number : Mode → ℕ
mode_number Enforced = 1
mode_number Watched = 2

abbrev pub answer_of : Result Header LoadError → Answer
answer_of (Ok header) = accepted (mode_number header.mode) header.actions header.rows
answer_of (Err Malformed) = refused 10 0
answer_of (Err NotCanonical) = refused 11 0

-- What the loader answers, one way out a line: accepted exactly when 10 and 11 pass, 10 exactly when check 10 fails, 11 exactly when 10 passes
-- and 11 fails.
pub data Loads (bytes : List ℕ) : Answer → Type 0 where
  accepts : Accepted bytes → Loads bytes (accepted (type_of bytes) (actions_of bytes) (rows_of bytes))
  malformed : (WellFormed bytes → ⊥) → Loads bytes (refused 10 0)
  not-canonical : WellFormed bytes → (Canonical bytes → ⊥) → Loads bytes (refused 11 0)

-- A header read: its fields where they are in their ranges.
pub record FieldsOf (bytes : List ℕ) (header : Header) : Type 0 where
  pub fits : HeaderFits bytes
  pub type : type_of bytes ≡ mode_number header.mode
  pub acting : actions_of bytes ≡ header.actions
  pub rowed : rows_of bytes ≡ header.rows

abbrev pub HeaderRead : List ℕ → Option Header → Type 0
HeaderRead bytes (Some header) = FieldsOf bytes header
HeaderRead bytes None = HeaderFits bytes → ⊥

-- Check 10: the header's fields where it passes.
pub record FormedAs (bytes : List ℕ) (header : Header) : Type 0 where
  pub formed : WellFormed bytes
  pub fields : FieldsOf bytes header

abbrev pub Checked : List ℕ → Option Header → Type 0
Checked bytes (Some header) = FormedAs bytes header
Checked bytes None = WellFormed bytes → ⊥
