-- The sheet of a policy with a lent action list, and when the policy has room on it.
-- Assumes nothing.
use Rattle.std.specs.Prelude.{List, ℕ, ◌≤◌, length}
use Rattle.policy.specs.Policy.{Policy}
use Rattle.syntax.specs.declared.Sheet.{Sheet}
use Rattle.sheet_writer.specs.Sheets.{listed_sheet}
use Rattle.grammar.specs.Nodes.{policy_nodes}

abbrev pub sheet_for : List ℕ → Policy → Sheet
sheet_for actions p = listed_sheet actions (policy_nodes 0 p)

abbrev pub Small : Policy → Type 0
Small p = length (policy_nodes 0 p) ≤ 64
