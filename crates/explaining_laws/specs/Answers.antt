-- When explaining gives each answer, in its place of the order of checks.
-- Assumes nothing.
use Rattle.std.specs.Prelude.{List, [], ◌∷◌, ℕ, suc, take}
use Rattle.trace.specs.Trace.{Sequence}
use Rattle.trace.specs.declared.Mode.{Mode}
use Rattle.trace.specs.declared.Mode.TheVariants.{Enforced}
use Rattle.limits.specs.declared.Limits.{Limits}
use Rattle.syntax.specs.declared.Sheet.{Sheet}
use Rattle.explaining.specs.Denials.{NotAnAction, NoneDenied, FirstDenied, LowestViolated}
use Rattle.explaining.specs.Explains.{Explanation, no-denial, denied, refused, CompiledSheet}

-- The bytes compile to a sheet of this mode.
pub record CompilesAs (bytes : List ℕ) (limits : Limits) (mode : Mode) : Type 0 where
  pub sheet : Sheet
  pub compiled : CompiledSheet bytes limits mode sheet

-- They compile to an enforced sheet, and a number of the list is no action of it.
pub record SomeNoAction (bytes list : List ℕ) (limits : Limits) : Type 0 where
  pub sheet : Sheet
  pub compiled : CompiledSheet bytes limits Enforced sheet
  pub outside : NotAnAction sheet.actions list

-- They compile to an enforced sheet, and every number of the list is an action of it.
pub record Explainable (bytes list : List ℕ) (limits : Limits) (sheet : Sheet) : Type 0 where
  pub compiled : CompiledSheet bytes limits Enforced sheet
  pub actions : Sequence sheet.actions list

-- The first denied action, and the node that is named for it.
pub record DeniedBy (sheet : Sheet) (list : List ℕ) (place node : ℕ) : Type 0 where
  pub first : FirstDenied sheet list place
  pub lowest : LowestViolated sheet (take (suc place) list) node

-- What is found where no refusal applies: no denial, or the first denied action.
pub data Outcome (sheet : Sheet) (list : List ℕ) : Explanation → Type 0 where
  permits : NoneDenied sheet list → Outcome sheet list no-denial
  denies : (place node : ℕ) → DeniedBy sheet list place node → Outcome sheet list (denied place node)

-- No action of the list is denied.
pub record PermitsAll (bytes list : List ℕ) (limits : Limits) : Type 0 where
  pub sheet : Sheet
  pub explainable : Explainable bytes list limits sheet
  pub none : NoneDenied sheet list

-- The first denied one, and the node.
pub record Denies (bytes list : List ℕ) (limits : Limits) (place node : ℕ) : Type 0 where
  pub sheet : Sheet
  pub explainable : Explainable bytes list limits sheet
  pub by : DeniedBy sheet list place node

-- What is written for an answer: the place of a denial.
abbrev pub written_for : Explanation → List ℕ
written_for no-denial = []
written_for (denied place node) = place ∷ []
written_for (refused number spot) = []
