-- What is listed on the sheet of a policy: the actions and the policy's nodes.
-- Assumes nothing.
use mathlib.Core.Path.{◌≡◌}
use mathlib.Core.List.{List}
use Prim.Native.Nat.{ℕ}
use native.Mathlib.Nat.{zero-add}
use lib.ListN.{get_or}
use Rattle.policy.specs.Policy.{Policy}
use Rattle.syntax.specs.Nodes.{node_of, propositions_of}
use Rattle.sheet_writer.proofs.Lists.{sheet-propositions, sheet-nodes}
use Rattle.grammar.specs.Nodes.{policy_nodes}
use Rattle.parsed_sheets.specs.Sheets.{sheet_for}
use Rattle.parsed_sheets.proofs.Each.{Each, each_from}

module _ (actions : List ℕ) (p : Policy) where
  -- The sheet lists the actions as they were lent.
  pub text-propositions : (a : ℕ) → propositions_of (sheet_for actions p) a ≡ get_or actions a 0
  text-propositions = sheet-propositions actions (policy_nodes 0 p)

  pub nodes-listed : Each (λ n x. node_of (sheet_for actions p) n ≡ x) 0 (policy_nodes 0 p)
  nodes-listed = each_from (λ n x. node_of (sheet_for actions p) n ≡ x) 0 (policy_nodes 0 p) (λ i h. rw zero-add (sheet-nodes actions (policy_nodes 0 p) i))
