-- What the exported calls return, and what they leave in the bytes lent to them.
-- Assumes nothing.
use Rattle.std.specs.Prelude.{◌≡◌, cond, List, ℕ, ◌≤◌, length}
use Rattle.table.specs.Answer.{Answer, Loads}
use Rattle.places.specs.declared.Board.{Board}
use Rattle.view.specs.Steps.{Call, Reply, input, changes}
use Rattle.view.specs.Calls.{Makes, Calls}
use Rattle.records.specs.Record.{record_length, board_of, written}
use Rattle.board_answers.specs.Numbers.{packed_reply}
use Rattle.answers.specs.Numbers.{packed_answer}

-- The loader: the number of what it answers.
pub record LoadReturns (table : List ℕ) (returned : ℕ) : Type 0 where
  pub answer : Answer
  pub loads : Loads table answer
  pub number : returned ≡ packed_answer answer

-- The record after a call: where the answer changes the board, the next board is written over its front.
abbrev pub record_after : List ℕ → Reply → Board → List ℕ
record_after bytes reply next = cond (changes reply) (written next bytes) bytes

-- A call of the board on a record and an area: refusal 14 for a record under its length, else what the board's own call answers, with the record
-- and the area that it leaves.
pub data Returns (call : Reply → Board → List ℕ → Type 0) (bytes area : List ℕ) : ℕ → List ℕ → List ℕ → Type 0 where
  short-record : (record_length ≤ length bytes → ⊥) → Returns call bytes area (packed_reply (input 14 0)) bytes area
  called : record_length ≤ length bytes → (reply : Reply) (next : Board) (left : List ℕ) → call reply next left
      → Returns call bytes area (packed_reply reply) (record_after bytes reply next) left

-- A new board: the old record is not read.
abbrev pub NewBoardReturns : (bytes area : List ℕ) → ℕ → List ℕ → List ℕ → Type 0
NewBoardReturns bytes area = Returns (Makes area) bytes area

-- A call on the board of a record.
abbrev pub CallReturns : (bytes area : List ℕ) → Call → ℕ → List ℕ → List ℕ → Type 0
CallReturns bytes area call = Returns (Calls (board_of bytes) area call) bytes area
