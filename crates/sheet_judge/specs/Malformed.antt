-- Checks 1 to 5 in plain statements: the first fault of bytes that hold no sheet.
-- `malformed-or-read` and `malformed-judged` (proofs/Malformed.antt): bytes are judged by it, or a sheet is read from them.
-- Assumes nothing.
use Rattle.sheet_reading.specs.declared.NodeError.TheVariants.{WrongField, UnknownKind}
use Rattle.std.specs.Prelude.{Err, ◌≡◌, true, false, List, ℕ, ◌<◌}
use Rattle.syntax.specs.declared.Fault.{Fault}
use Rattle.syntax.specs.declared.Fault.TheVariants.{Length, Counts, Areas, UnknownKindAt, WrongFieldAt}
use Rattle.syntax.specs.declared.Sheet.{Sheet}
use Rattle.typing.specs.Typed.{Judgement, faulty, judge_sheet}
use Rattle.sheet_layout.specs.Layout.{node_count, length_right, counts_right, areas_right, WellLaid}
use Rattle.sheet_reading.specs.Reading.{node_read, RightBefore}
use Rattle.sheet_reading.specs.ReadFrom.{ReadFrom}

-- The first fault of checks 1 to 5, which are made in this order, 4 and 5 node by node.
pub data Malformed (bytes : List ℕ) : Fault → Type 0 where
  -- 1: a length that is not the total, or under 10 bytes
  wrong-length : length_right bytes ≡ false → Malformed bytes Length
  -- 2: a count outside its range
  wrong-counts : length_right bytes ≡ true → counts_right bytes ≡ false → Malformed bytes Counts
  -- 3: areas that overlap, or do not lie between the header and the end
  wrong-areas : length_right bytes ≡ true → counts_right bytes ≡ true → areas_right bytes ≡ false → Malformed bytes Areas
  -- 4: a node of no kind
  unknown-kind : WellLaid bytes → (n : ℕ) → n < node_count bytes → RightBefore bytes n → node_read bytes n ≡ Err UnknownKind → Malformed bytes (UnknownKindAt n)
  -- 5: a node with a wrong part, argument or unused field
  wrong-field : WellLaid bytes → (n : ℕ) → n < node_count bytes → RightBefore bytes n → node_read bytes n ≡ Err WrongField → Malformed bytes (WrongFieldAt n)

-- Bytes are judged by that fault, or as the sheet that is read from them.
pub data MalformedOrRead (bytes : List ℕ) : Judgement → Type 0 where
  malformed : (f : Fault) → Malformed bytes f → MalformedOrRead bytes (faulty f)
  read : (sheet : Sheet) → ReadFrom bytes sheet → MalformedOrRead bytes (judge_sheet sheet)
