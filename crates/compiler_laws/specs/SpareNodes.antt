-- What two sheets with the same used nodes give: the same table, or one refusal number at one node.
-- Assumes nothing.
use Rattle.std.specs.Prelude.{◌≡◌, List, [], ℕ, ◌+◌, ◌*◌, take}
use Rattle.table.specs.Answer.{Answer, accepted, refused}

-- Two answers, each with its table: the same but for the spot, which is the node's own number in its own sheet.
pub data SameButSpot (to : ℕ → ℕ) : Answer → List ℕ → Answer → List ℕ → Type 0 where
  same-table : (type actions rows : ℕ) (table : List ℕ) → SameButSpot to (accepted type actions rows) table (accepted type actions rows) table
  same_number : (number spot : ℕ) → SameButSpot to (refused number spot) [] (refused number (to spot)) []

-- Two calls, each with its answer and its output, which was `out`, and `lent`: the same table at the front of both, or outputs that are left.
pub data SameCall (to : ℕ → ℕ) (out lent : List ℕ) : Answer → List ℕ → Answer → List ℕ → Type 0 where
  same-front : (type actions rows : ℕ) (out' lent' : List ℕ) → take (8 + rows * actions) out' ≡ take (8 + rows * actions) lent'
      → SameCall to out lent (accepted type actions rows) out' (accepted type actions rows) lent'
  both_left : (number spot : ℕ) → SameCall to out lent (refused number spot) out (refused number (to spot)) lent
