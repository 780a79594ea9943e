-- The first denied action of a list, and the node that is named for it, in the words of the meanings alone.
-- Assumes nothing.
use Rattle.std.specs.Prelude.{◌≡◌, Bool, true, false, List, ℕ, suc, ◌-◌, ◌≤◌, ◌<◌, length, get_or, take}
use Rattle.policy.specs.Policy.{satisfies}
use Rattle.syntax.specs.Nodes.{propositions_of}
use Rattle.syntax.specs.Meaning.{node_policy}
use Rattle.reached.specs.Parts.{ReachedByAnd}
use Rattle.syntax.specs.declared.Sheet.{Sheet}

-- The policy's own node.
abbrev pub policy_node : Sheet → ℕ
policy_node sheet = sheet.count - 1

-- Whether a sequence satisfies node n by its own meaning.
abbrev pub satisfies_node : Sheet → (n : ℕ) → List ℕ → Bool
satisfies_node sheet n w = satisfies (propositions_of sheet) (node_policy sheet n) w

-- A number of the list is no action.
pub record NotAnAction (actions : ℕ) (list : List ℕ) : Type 0 where
  pub place : ℕ
  pub inside : place < length list
  pub beyond : actions ≤ get_or list place 0

-- Every front of the list satisfies the policy, the empty one and the whole among them.
abbrev pub NoneDenied : Sheet → List ℕ → Type 0
NoneDenied sheet list = (k : ℕ) → k ≤ length list → satisfies_node sheet (policy_node sheet) (take k list) ≡ true

-- The action at this place is denied, and those before it, `take place list`, are permitted: with it they violate the policy, and no front of them
-- does.
pub record FirstDenied (sheet : Sheet) (list : List ℕ) (place : ℕ) : Type 0 where
  pub inside : place < length list
  pub permitted : (k : ℕ) → k ≤ place → satisfies_node sheet (policy_node sheet) (take k list) ≡ true
  pub denied : satisfies_node sheet (policy_node sheet) (take (suc place) list) ≡ false

-- Of the policy's own node and those reached from it through And alone, the lowest-numbered one that the sequence violates by its own meaning.
pub record LowestViolated (sheet : Sheet) (w : List ℕ) (node : ℕ) : Type 0 where
  pub reached : ReachedByAnd sheet (policy_node sheet) node
  pub violated : satisfies_node sheet node w ≡ false
  pub lowest : (m : ℕ) → m < node → ReachedByAnd sheet (policy_node sheet) m → satisfies_node sheet m w ≡ true
