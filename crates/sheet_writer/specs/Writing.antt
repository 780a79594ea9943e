-- What writing nodes one by one leaves in their array, and what writing a sheet leaves in the output.
-- Assumes nothing.
use Rattle.std.specs.Prelude.{◌≡◌, List, ◌++◌, ℕ, ◌+◌, ◌*◌, ◌≤◌, length, take, drop}
use Rattle.syntax.specs.declared.Node.{Node}
use Rattle.sheet_writer.specs.Bytes.{node_room, largest_sheet, front_bytes, all_bytes}
use Rattle.sheet_writer.specs.Sheets.{Narrow}

-- Nodes are written after the first n, where there is room for all of them.
pub record Wrote (nodes : List Node) (n : ℕ) (before after : List ℕ) : Type 0 where
  pub sized : length after ≡ length before
  pub front : n + length nodes ≤ 64 → take (5 * (n + length nodes)) after ≡ take (5 * n) before ++ all_bytes nodes

-- The bytes of one node more are written after the first n, where there is room.
pub record WroteOne (bytes : List ℕ) (n : ℕ) (before after : List ℕ) : Type 0 where
  pub sized : length after ≡ length before
  pub front : n + 1 ≤ 64 → take (5 * (n + 1)) after ≡ take (5 * n) before ++ bytes

-- What writing a sheet asks: few actions, and an output that has room for any sheet.
pub record SheetRoom (actions : List ℕ) (count : ℕ) (nodes out : List ℕ) : Type 0 where
  pub few-actions : length actions ≤ 16
  pub few-nodes : count ≤ 64
  pub sixty-four : length nodes ≡ node_room
  pub room : largest_sheet ≤ length out

abbrev pub sheet_length : List ℕ → ℕ → ℕ
sheet_length actions count = 10 + 2 * length actions + 5 * count

-- The sheet of an action list and of the bytes of nodes stands at the front of the output, and what stood after it still does. Where the bytes are
-- those of nodes, it is the sheet of these (`sheet-out`), and is read back as such (`written_back`, proofs/WrittenBack.antt).
pub record WritesSheet (actions : List ℕ) (count : ℕ) (nodes out : List ℕ) (size : ℕ) (out'' : List ℕ) : Type 0 where
  pub narrow : Narrow actions
  pub size_is : size ≡ sheet_length actions count
  pub output : out'' ≡ front_bytes (length actions) count actions ++ (take (5 * count) nodes ++ drop (sheet_length actions count) out)
