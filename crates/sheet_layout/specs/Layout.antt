-- A rule sheet's bytes (docs/FORMATS.md, "The rule sheet"): the header, the two areas, and checks 1 to 3.
-- Assumes nothing.
use Rattle.std.specs.Prelude.{Result, Ok, Err, ◌≡◌, Bool, cond, ◌&&◌, ◌||◌, ◌⊎◌, List, ℕ, ◌+◌, ◌*◌, ◌≤◌, ◌<◌, leb, eqb, length, get_or}
use Rattle.base.specs.Word.{word_at}
use Rattle.syntax.specs.declared.Fault.{Fault}
use Rattle.syntax.specs.declared.Fault.TheVariants.{Length, Counts, Areas}
use Rattle.sheet_layout.specs.declared.Layout.{Layout}

-- The header, 10 bytes: count of actions, count of nodes, offset of the action list, offset of the node list, total length.
abbrev pub action_count : List ℕ → ℕ
action_count bytes = word_at bytes 0

abbrev pub node_count : List ℕ → ℕ
node_count bytes = word_at bytes 2

abbrev pub actions_at : List ℕ → ℕ
actions_at bytes = word_at bytes 4

abbrev pub nodes_at : List ℕ → ℕ
nodes_at bytes = word_at bytes 6

abbrev pub total : List ℕ → ℕ
total bytes = word_at bytes 8

abbrev pub in_range : ℕ → ℕ → ℕ → Bool
in_range low high x = leb low x && leb x high

-- Check 1: a sheet of 10 bytes or more, whose total is its length.
abbrev pub length_right : List ℕ → Bool
length_right bytes = leb 10 (length bytes) && eqb (total bytes) (length bytes)

-- Check 2: 1 to 16 actions and 1 to 64 nodes.
abbrev pub counts_right : List ℕ → Bool
counts_right bytes = in_range 1 16 (action_count bytes) && in_range 1 64 (node_count bytes)

-- Check 3: the areas, 2 bytes an action and 5 bytes a node, lie behind the header, inside the total, and do not overlap.
abbrev pub actions_end : List ℕ → ℕ
actions_end bytes = actions_at bytes + 2 * action_count bytes

abbrev pub nodes_end : List ℕ → ℕ
nodes_end bytes = nodes_at bytes + 5 * node_count bytes

abbrev pub behind_header : List ℕ → Bool
behind_header bytes = leb 10 (actions_at bytes) && leb 10 (nodes_at bytes)

abbrev pub inside_total : List ℕ → Bool
inside_total bytes = leb (actions_end bytes) (total bytes) && leb (nodes_end bytes) (total bytes)

abbrev pub apart : List ℕ → Bool
apart bytes = leb (actions_end bytes) (nodes_at bytes) || leb (nodes_end bytes) (actions_at bytes)

abbrev pub areas_right : List ℕ → Bool
areas_right bytes = behind_header bytes && inside_total bytes && apart bytes

-- What stands where a sheet's areas are laid: entry a of the action list, and field f of node n (0 the kind, 1 the argument, 2 to 4 the parts).
abbrev pub entry_of : List ℕ → ℕ → ℕ
entry_of bytes a = word_at bytes (actions_at bytes + 2 * a)

abbrev pub field : List ℕ → ℕ → ℕ → ℕ
field bytes n f = get_or bytes (nodes_at bytes + 5 * n + f) 0

-- The layout that the header says.
abbrev pub layout_in : List ℕ → Layout
layout_in bytes = record { actions = action_count bytes; nodes = node_count bytes; actions_at = actions_at bytes; nodes_at = nodes_at bytes }

-- Checks 1 to 3: where the areas are, or the first fault.
abbrev pub layout_of : List ℕ → Result Layout Fault
layout_of bytes =
    cond (length_right bytes)
    (cond (counts_right bytes)
    (cond (areas_right bytes) (Ok (layout_in bytes)) (Err Areas))
    (Err Counts))
    (Err Length)

-- The same in plain statements.
pub record WellLaid (bytes : List ℕ) : Type 0 where
  pub long : 10 ≤ length bytes
  pub whole : total bytes ≡ length bytes
  pub some-action : 1 ≤ action_count bytes
  pub few-actions : action_count bytes ≤ 16
  pub some-node : 1 ≤ node_count bytes
  pub few-nodes : node_count bytes ≤ 64
  pub actions-behind : 10 ≤ actions_at bytes
  pub nodes-behind : 10 ≤ nodes_at bytes
  pub actions-inside : actions_end bytes ≤ total bytes
  pub nodes-inside : nodes_end bytes ≤ total bytes
  pub apart : (actions_end bytes ≤ nodes_at bytes) ⊎ (nodes_end bytes ≤ actions_at bytes)

-- What checks 1 to 3 say of one area: how many entries of a width, and where they stand.
pub record Inside (bytes : List ℕ) (at width count most : ℕ) : Type 0 where
  pub few : count ≤ most
  pub inside : at + width * count ≤ length bytes

-- Two sheets of one length that have the same header and, where checks 1 to 3 pass, the same bytes in the two areas. `unread`
-- (sheet_judge, proofs/Unread.antt): they are judged alike, so bytes outside the areas are not read.
pub record AgreeInAreas (bytes other : List ℕ) : Type 0 where
  pub same_length : length bytes ≡ length other
  pub header : (i : ℕ) → i < 10 → get_or bytes i 0 ≡ get_or other i 0
  pub actions : WellLaid bytes → (i : ℕ) → actions_at bytes ≤ i → i < actions_end bytes → get_or bytes i 0 ≡ get_or other i 0
  pub nodes : WellLaid bytes → (i : ℕ) → nodes_at bytes ≤ i → i < nodes_end bytes → get_or bytes i 0 ≡ get_or other i 0
