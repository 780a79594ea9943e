-- The text of what compiling answers.
-- Assumes nothing.
use Rattle.std.specs.Prelude.{List, ℕ}
use Rattle.trace.specs.declared.Mode.{Mode}
use Rattle.limits.specs.Limits.{largest}
use Rattle.table.specs.Answer.{Answer, accepted, refused, mode_number}
use Rattle.table.specs.Table.{entries_of}
use Rattle.compiler.specs.Compiles.{Compiles}
use Rattle.printed_lines.specs.Text.{table_text, refusal_text}
use Rattle.printing.specs.Printing.{PrintOutcome, GivesText, PrintsTable, PrintsRefusal}

-- A table is printed with its rows' entries, a refusal with its number and spot.
pub data PrintsAnswer (entries old : List ℕ) : Answer → PrintOutcome → List ℕ → Type 0 where
  of-table : (mode : Mode) (actions rows : ℕ) (printed : PrintOutcome) (new : List ℕ) → PrintsTable mode actions rows entries old printed new
      → PrintsAnswer entries old (accepted (mode_number mode) actions rows) printed new
  of-refusal : (number spot : ℕ) (printed : PrintOutcome) (new : List ℕ) → PrintsRefusal number spot old printed new
      → PrintsAnswer entries old (refused number spot) printed new

-- The text of an answer, with the bytes of its table.
pub data AnswerText (written : List ℕ) : Answer → List ℕ → Type 0 where
  of-table : (mode : Mode) (actions rows : ℕ) → AnswerText written (accepted (mode_number mode) actions rows) (table_text mode actions rows (entries_of written))
  of-refusal : (number spot : ℕ) → AnswerText written (refused number spot) (refusal_text number spot)

-- A sheet is printed: the text of what compiling gives is given to the area.
pub record PrintsSheet (bytes old : List ℕ) (printed : PrintOutcome) (new : List ℕ) : Type 0 where
  pub answer : Answer
  pub written : List ℕ
  pub text : List ℕ
  pub compiled : Compiles bytes largest answer written
  pub said : AnswerText written answer text
  pub given : GivesText text old printed new
