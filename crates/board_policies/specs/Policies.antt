-- A board whose rules are compiled from sheets.
-- Assumes nothing.
use Rattle.std.specs.Prelude.{◌≡◌, Bool, true, false, List, [], ◌∷◌, ◌++◌, ℕ, ◌≤◌}
use Rattle.limits.specs.declared.Limits.{Limits}
use Rattle.policy.specs.Policy.{satisfies}
use Rattle.table.specs.Table.{type_of}
use Rattle.table.specs.Answer.{accepted}
use Rattle.syntax.specs.Nodes.{propositions_of}
use Rattle.syntax.specs.Meaning.{sheet_policy}
use Rattle.syntax.specs.declared.Sheet.{Sheet}
use Rattle.compiler.specs.Compiles.{Compiles}
use Rattle.compiler_laws.specs.Demands.{ReadAs}
use Rattle.runs.specs.Events.{Event, on_place, rule}

-- A table is compiled from a sheet, under limits of at most 64 rows.
pub record CompiledFrom (table : List ℕ) : Type 0 where
  pub bytes : List ℕ
  pub sheet : Sheet
  pub read : ReadAs bytes sheet
  pub limits : Limits
  pub few : limits.rows ≤ 64
  pub type : ℕ
  pub actions : ℕ
  pub rows : ℕ
  pub compiles : Compiles bytes limits (accepted type actions rows) table

-- A sheet for each enforced rule on the board.
abbrev pub EnforcedSheets : List Event → Type 0
EnforcedSheets events = (i : ℕ) (table since : List ℕ) → on_place events i ≡ rule table since → type_of table ≡ 1 → CompiledFrom table

-- The sequence satisfies the policy of the sheet.
abbrev pub satisfies_sheet : Sheet → List ℕ → Bool
satisfies_sheet sheet w = satisfies (propositions_of sheet) (sheet_policy sheet) w

-- No enforced policy is violated by the actions permitted since its rule was put on, followed by this one.
abbrev pub NonePolicyViolated : (events : List Event) → EnforcedSheets events → ℕ → Type 0
NonePolicyViolated events sheets action =
    (i : ℕ) (table since : List ℕ) (on : on_place events i ≡ rule table since) (enforced : type_of table ≡ 1)
    → satisfies_sheet (sheets i table since on enforced).sheet (since ++ (action ∷ [])) ≡ true

-- A policy is first satisfied by this action: the sequence followed by it satisfies the policy, and no shorter front of that does.
pub record FirstSatisfied (sheet : Sheet) (since : List ℕ) (action : ℕ) : Type 0 where
  pub satisfied : satisfies_sheet sheet (since ++ (action ∷ [])) ≡ true
  pub shortest : (earlier later : List ℕ) → since ≡ earlier ++ later → satisfies_sheet sheet earlier ≡ false
