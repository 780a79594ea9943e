-- The bound of a rule text's policy. Each node adds 60 at most, so check 7 never comes (`text-typed`, proofs/TextTyped.antt).
-- Assumes nothing.
use Rattle.std.specs.Prelude.{◌≡◌, ℕ, ◌*◌, ◌≤◌, length}
use Rattle.policy.specs.Typing.{typed, policy_type}
use Rattle.policy.specs.declared.Bound.{Bound}
use Rattle.policy.specs.declared.Bound.TheVariants.{Finite as finite, Unbounded as unbounded}
use Rattle.grammar.specs.Grammar.{TextRule}
use Rattle.grammar.specs.Nodes.{policy_nodes}

-- A bound is finite and at most so much, or unbounded.
abbrev pub AtMost : Bound → ℕ → Type 0
AtMost (finite k) most = k ≤ most
AtMost unbounded most = Unit {0}

-- A rule's policy has a type of the rule's mode, with a bound of 60 at most a node: of 64 nodes at most 3,840.
pub record RuleTyped (rule : TextRule) : Type 0 where
  pub bound : Bound
  pub type : policy_type rule.policy ≡ typed rule.mode bound
  pub low : AtMost bound (60 * length (policy_nodes 0 rule.policy))
