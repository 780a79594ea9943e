-- A sheet that stands in bytes, in plain statements. `judge-from` (sheet_judge, proofs/JudgedFrom.antt): the bytes are judged as the sheet is.
-- `judged-formed`: bytes that are judged sound hold their sheet so, and it is formed.
-- Assumes nothing.
use Rattle.std.specs.Prelude.{Ok, ◌≡◌, List, ℕ, ◌≤◌, ◌<◌, length}
use Rattle.syntax.specs.Nodes.{node_of, propositions_of}
use Rattle.syntax.specs.declared.Node.TheVariants.{True}
use Rattle.syntax.specs.declared.Sheet.{Sheet}
use Rattle.sheet_layout.specs.Layout.{WellLaid, action_count, node_count, entry_of}
use Rattle.sheet_reading.specs.Reading.{node_read}

-- Nothing is listed behind a sheet's last action and its last node.
pub record NothingBehind (sheet : Sheet) : Type 0 where
  pub sixteen : length sheet.propositions ≡ 16
  pub no-action : (a : ℕ) → sheet.actions ≤ a → propositions_of sheet a ≡ 0
  pub sixty-four : length sheet.nodes ≡ 64
  pub no_node : (n : ℕ) → sheet.count ≤ n → node_of sheet n ≡ True

-- The bytes pass checks 1 to 3, and the sheet has the entries of their action list and the nodes of their node list.
pub record ReadFrom (bytes : List ℕ) (sheet : Sheet) : Type 0 where
  pub laid : WellLaid bytes
  pub actions : sheet.actions ≡ action_count bytes
  pub count : sheet.count ≡ node_count bytes
  pub propositions : (a : ℕ) → a < sheet.actions → propositions_of sheet a ≡ entry_of bytes a
  pub nodes : (n : ℕ) → n < sheet.count → node_read bytes n ≡ Ok (node_of sheet n)
  pub behind : NothingBehind sheet
