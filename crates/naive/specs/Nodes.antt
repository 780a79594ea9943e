-- What is read of a sheet: its header, the fields of a node, and what is found.
-- Assumes nothing.
use Rattle.std.specs.Prelude.{◌≡◌, List, ℕ, ◌+◌, ◌*◌, ◌%◌, ◌≤◌, ◌<◌, get_or}
use Rattle.naive.specs.Bytes.{sheet_word}
use Rattle.naive.specs.declared.Areas.{Areas}
use Rattle.naive.specs.declared.Check.{Check}
use Rattle.naive.specs.declared.Check.TheVariants.{Total, Counts, Lists, Kind, Fields, Types, Bound}

-- The number of the refusal of a check.
abbrev pub check_number : Check → ℕ
check_number Total = 1
check_number Counts = 2
check_number Lists = 3
check_number Kind = 4
check_number Fields = 5
check_number Types = 6
check_number Bound = 7

-- Where the lists are: the counts and places that the header states.
pub record Located (bytes : List ℕ) (areas : Areas) : Type 0 where
  pub few-actions : areas.actions ≤ 16
  pub some-nodes : 1 ≤ areas.nodes
  pub few-nodes : areas.nodes ≤ 64
  pub counts : (areas.actions ≡ sheet_word bytes 0) × (areas.nodes ≡ sheet_word bytes 2)
  pub places : (areas.actions_at ≡ sheet_word bytes 4) × (areas.nodes_at ≡ sheet_word bytes 6)

-- The first byte of node n.
abbrev pub node_place : (nodes-at n : ℕ) → ℕ
node_place nodes-at n = nodes-at % 65536 + 5 * (n % 65536)

-- The five fields of a node are its five bytes.
pub record FieldsAt (bytes : List ℕ) (from kind argument a b c : ℕ) : Type 0 where
  pub kinds : (kind ≡ get_or bytes from 0) × (kind < 256)
  pub arguments : (argument ≡ get_or bytes (from + 1) 0) × (argument < 256)
  pub parts : (a ≡ get_or bytes (from + 2) 0) × (b ≡ get_or bytes (from + 3) 0) × (c ≡ get_or bytes (from + 4) 0)
