-- What is answered to a text.
-- Assumes nothing.
use Rattle.std.specs.Prelude.{◌≡◌, List, ℕ, ◌+◌, ◌*◌, ◌≤◌, ◌<◌, Result, Ok, Err}
use Rattle.naive_texts.specs.declared.Sheet.{Sheet}
use Rattle.naive_texts.specs.declared.Refusal.{Refusal}
use Rattle.naive_texts.specs.declared.Refusal.TheVariants.{ShortOutput, Actions, LongText, Unreadable, TooManyNodes}

-- The number and the spot of a refusal.
abbrev pub refusal_number : Refusal → ℕ
refusal_number ShortOutput = 14
refusal_number Actions = 2
refusal_number LongText = 31
refusal_number (Unreadable words) = 32
refusal_number TooManyNodes = 33

abbrev pub refusal_spot : Refusal → ℕ
refusal_spot ShortOutput = 0
refusal_spot Actions = 0
refusal_spot LongText = 0
refusal_spot (Unreadable words) = words
refusal_spot TooManyNodes = 0

-- A sheet's length, actions and nodes. Each has 16 bits.
pub record Written (sheet : Sheet) : Type 0 where
  pub few-actions : sheet.actions ≤ 16
  pub few-nodes : sheet.nodes ≤ 64
  pub lengths : sheet.length ≡ 10 + 2 * sheet.actions + 5 * sheet.nodes

-- A refusal, with its spot and an output that is as it was.
pub record Refused (old new : List ℕ) (refusal : Refusal) : Type 0 where
  pub spots : refusal_spot refusal < 65536
  pub same : new ≡ old

abbrev pub AnswersText : (old new : List ℕ) → Result Sheet Refusal → Type 0
AnswersText old new (Ok sheet) = Written sheet
AnswersText old new (Err refusal) = Refused old new refusal
