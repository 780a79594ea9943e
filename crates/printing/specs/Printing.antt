-- What the printing calls answer, and every byte of the text area.
-- Assumes nothing.
use Rattle.std.specs.Prelude.{List, ◌++◌, ℕ, ◌*◌, ◌≤◌, ◌<◌, length, drop, Result, Ok, Err}
use Rattle.trace.specs.declared.Mode.{Mode}
use Rattle.printed_lines.specs.Text.{table_text, refusal_text}
use Rattle.printing.specs.declared.PrintError.{PrintError}
use Rattle.printing.specs.declared.PrintError.TheVariants.{OutOfRange, ShortText}

-- An answer: so many bytes were written, or the number of a refusal. A text area that is too short is 14; values that no table, or no refusal,
-- has are 10.
pub data PrintOutcome : Type 0 where
  wrote : (count : ℕ) → PrintOutcome
  refused : (number : ℕ) → PrintOutcome

abbrev pub outcome_of : Result ℕ PrintError → PrintOutcome
outcome_of (Ok count) = wrote count
outcome_of (Err OutOfRange) = refused 10
outcome_of (Err ShortText) = refused 14

-- The counts of a table, and enough entries for them.
pub record TableInRange (actions rows : ℕ) (entries : List ℕ) : Type 0 where
  pub actions-low : 1 ≤ actions
  pub actions-high : actions ≤ 16
  pub rows-low : 1 ≤ rows
  pub rows-high : rows ≤ 64
  pub enough : rows * actions ≤ length entries

pub record RefusalInRange (number spot : ℕ) : Type 0 where
  pub number-high : number < 1000
  pub spot-high : spot < 1000

-- A text is given to an area: at its front with the rest unchanged where it fits, else not at all.
pub data GivesText (text old : List ℕ) : PrintOutcome → List ℕ → Type 0 where
  fits : length text ≤ length old → GivesText text old (wrote (length text)) (text ++ drop (length text) old)
  short : length old < length text → GivesText text old (refused 14) old

pub data PrintsTable (mode : Mode) (actions rows : ℕ) (entries old : List ℕ) : PrintOutcome → List ℕ → Type 0 where
  out_of_range : (TableInRange actions rows entries → ⊥) → PrintsTable mode actions rows entries old (refused 10) old
  in-range : (answer : PrintOutcome) (new : List ℕ) → TableInRange actions rows entries → GivesText (table_text mode actions rows entries) old answer new
      → PrintsTable mode actions rows entries old answer new

pub data PrintsRefusal (number spot : ℕ) (old : List ℕ) : PrintOutcome → List ℕ → Type 0 where
  out_of_range : (RefusalInRange number spot → ⊥) → PrintsRefusal number spot old (refused 10) old
  in-range : (answer : PrintOutcome) (new : List ℕ) → RefusalInRange number spot → GivesText (refusal_text number spot) old answer new
      → PrintsRefusal number spot old answer new

-- how many bytes an answer says were written
abbrev pub count_of : Result ℕ PrintError → ℕ
count_of (Ok count) = count
count_of (Err e) = 0
