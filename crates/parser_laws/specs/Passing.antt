-- What the sheet of a text is to the checks of a sheet.
-- Assumes nothing.
use Rattle.std.specs.Prelude.{◌≡◌, Bool, List, ℕ, length, get_or}
use Rattle.policy.specs.Policy.{Policy, satisfies}
use Rattle.syntax.specs.Nodes.{propositions_of}
use Rattle.syntax.specs.Meaning.{sheet_policy}
use Rattle.typing.specs.Typed.{judge_sheet}
use Rattle.syntax.specs.declared.Sheet.{Sheet}
use Rattle.sheet_reading.specs.ReadFrom.{ReadFrom}
use Rattle.sheet_judge.specs.Judge.{judge}

-- Bytes pass checks 1 to 5: they hold this sheet, and no other, and checks 6 and 7 judge them as they judge it. Its policy is this one, over the
-- lent actions.
pub record PassesFive (actions : List ℕ) (policy : Policy) (bytes : List ℕ) (sheet : Sheet) : Type 0 where
  pub read : ReadFrom bytes sheet
  pub only : (other : Sheet) → ReadFrom bytes other → other ≡ sheet
  pub judged : judge bytes ≡ judge_sheet sheet
  pub means : sheet_policy sheet ≡ policy
  pub count : sheet.actions ≡ length actions
  pub propositions : (a : ℕ) → propositions_of sheet a ≡ get_or actions a 0

-- The sequence satisfies the policy, over the lent actions.
abbrev pub satisfies_over : List ℕ → Policy → List ℕ → Bool
satisfies_over actions p w = satisfies (λ a. get_or actions a 0) p w
