-- What is said of a sheet and a table that belong together.
-- Assumes nothing.
use Rattle.syntax.specs.declared.NodeType.{NodeType}
use Rattle.std.specs.Prelude.{◌≡◌, List, [], ◌∷◌, ℕ}
use Rattle.trace.specs.declared.Mode.{Mode}
use Rattle.trace.specs.Trace.{Sequence}
use Rattle.policy.specs.declared.Bound.{Bound}
use Rattle.policy.specs.Policy.{satisfies}
use Rattle.policy.specs.Typing.{typed as Typed, policy_type}
use Rattle.syntax.specs.Nodes.{propositions_of}
use Rattle.syntax.specs.Meaning.{sheet_policy}
use Rattle.typing.specs.Typed.{sound}
use Rattle.syntax.specs.declared.Sheet.{Sheet}
use Rattle.sheet_judge.specs.Judge.{judge}
use Rattle.sheet_writer.specs.Bytes.{sheet_bytes}
use Rattle.table.specs.Table.{type_of, actions_of, Accepted, verdict}
use Rattle.table.specs.Answer.{mode_number}

-- A policy's type, its sheet, and its table.
pub record Case : Type 0 where
  pub mode : Mode
  pub sheet : Sheet
  pub table : List ℕ

-- The sheet's bytes pass checks 1 to 7, and its policy is of the type; the table passes 10 and 11, has the sheet's actions and the policy's
-- type, and gives the policy's verdict after every sequence.
pub record Right (case : Case) : Type 0 where
  pub types : List NodeType
  pub judged : judge (sheet_bytes case.sheet) ≡ sound case.mode case.sheet types
  pub bound : Bound
  pub typed : policy_type (sheet_policy case.sheet) ≡ Typed case.mode bound
  pub accepted : Accepted case.table
  pub acting : actions_of case.table ≡ case.sheet.actions
  pub type : type_of case.table ≡ mode_number case.mode
  pub verdicts : (w : List ℕ) → Sequence case.sheet.actions w
      → verdict case.table w ≡ satisfies (propositions_of case.sheet) (sheet_policy case.sheet) w

-- each of a list of cases
abbrev pub AllRight : List Case → Type 0
AllRight [] = Unit {0}
AllRight (case ∷ cases) = Right case × AllRight cases
