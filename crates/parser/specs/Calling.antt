-- The public call: its answer in the numbers of docs/FORMATS.md, "Refusals", and every byte of the output.
-- Assumes nothing.
use Rattle.std.specs.Prelude.{List, ◌++◌, ℕ, ◌≤◌, ◌<◌, Result, Ok, Err, length, drop}
use Rattle.sheet_writer.specs.Bytes.{largest_sheet, sheet_bytes}
use Rattle.sheet_writer.specs.Sheets.{SomeActions, Narrow}
use Rattle.grammar.specs.Words.{words_of}
use Rattle.grammar.specs.Grammar.{TextRule, Reads}
use Rattle.grammar.specs.Language.{InLanguage, Spot, Expects}
use Rattle.grammar.specs.Nodes.{policy_nodes}
use Rattle.parsed_sheets.specs.Sheets.{sheet_for}
use Rattle.grammar.specs.declared.Category.{Category}
use Rattle.grammar.specs.declared.Category.TheVariants.{Text}
use Rattle.parser_state.specs.Progress.{longest_text}
use Rattle.parser.specs.declared.SheetRead.{SheetRead}
use Rattle.parser.specs.declared.TextError.{TextError}
use Rattle.parser.specs.declared.TextError.TheVariants.{ShortArea, Actions, LongText, Unreadable, TooManyNodes}

-- An answer: a sheet is written, with its length in bytes and its numbers of actions and nodes; or a refusal's number and spot.
pub data TextAnswer : Type 0 where
  written : (bytes actions nodes : ℕ) → TextAnswer
  refused : (number spot : ℕ) → TextAnswer

abbrev pub answer_of : Result SheetRead TextError → TextAnswer
answer_of (Ok sheet) = written sheet.length sheet.actions sheet.nodes
answer_of (Err ShortArea) = refused 14 0
answer_of (Err Actions) = refused 2 0
answer_of (Err LongText) = refused 31 0
answer_of (Err (Unreadable spot expected)) = refused 32 spot
answer_of (Err TooManyNodes) = refused 33 0

-- What reading a text gives where the output is long enough, the actions are some and few, and the text is not too long.
pub data ReadsAs (text actions out : List ℕ) : TextAnswer → List ℕ → Type 0 where
  -- 32: not in the language; the spot is by the language
  unreadable : (spot : ℕ) → (InLanguage (words_of text) → ⊥) → Spot (words_of text) spot → ReadsAs text actions out (refused 32 spot) out
  -- 33: in the language, with more than 64 nodes
  too_many : (rule : TextRule) → Reads Text (words_of text) rule → 64 < length (policy_nodes 0 rule.policy) → ReadsAs text actions out (refused 33 0) out
  -- the sheet of the reading, at the front of the output; its action list is the lent one
  reads : (rule : TextRule) → Reads Text (words_of text) rule → length (policy_nodes 0 rule.policy) ≤ 64 → Narrow actions
      → ReadsAs text actions out
      (written (length (sheet_bytes (sheet_for actions rule.policy))) (length actions) (length (policy_nodes 0 rule.policy)))
      (sheet_bytes (sheet_for actions rule.policy) ++ drop (length (sheet_bytes (sheet_for actions rule.policy))) out)

-- The public call, one way out a line, in the order of its checks: the answer, and every byte of the output.
pub data ReadsInto (text actions out : List ℕ) : TextAnswer → List ℕ → Type 0 where
  short : length out < largest_sheet → ReadsInto text actions out (refused 14 0) out
  no-actions : largest_sheet ≤ length out → (SomeActions actions → ⊥) → ReadsInto text actions out (refused 2 0) out
  long : largest_sheet ≤ length out → SomeActions actions → longest_text < length text → ReadsInto text actions out (refused 31 0) out
  judged : largest_sheet ≤ length out → SomeActions actions → length text ≤ longest_text → (answer : TextAnswer) (out'' : List ℕ) → ReadsAs text actions out answer out''
      → ReadsInto text actions out answer out''

-- What an answer says besides: the words that could stand at the spot of 32.
pub data Tells (text : List ℕ) : Result SheetRead TextError → Type 0 where
  of-sheet : {sheet : SheetRead} → Tells text (Ok sheet)
  of-area : Tells text (Err ShortArea)
  of-actions : Tells text (Err Actions)
  of_length : Tells text (Err LongText)
  of-spot : {spot : ℕ} {expected : Category} → Expects (words_of text) spot expected → Tells text (Err (Unreadable spot expected))
  of-nodes : Tells text (Err TooManyNodes)
