-- Which sequences trip a policy: a watched one trips when it becomes satisfied, an enforced one when it becomes violated.
-- Assumes nothing.
use Rattle.std.specs.Prelude.{None, ◌≡◌, ℕ}
use Rattle.policy.specs.Operators.{Property}
use Rattle.policy.specs.Policy.{Policy, satisfies}
use Rattle.policy.specs.Typing.{Mode, watched, Bound, Typing, typed, policy_type, tripped_at}

-- A policy with no type is read as a watched one; only typed ones are compiled.
abbrev pub mode_of : Typing → Mode
mode_of (typed m k) = m
mode_of None = watched

abbrev pub trips_policy : (ℕ → ℕ) → Policy → Property
trips_policy propositions p w = tripped_at (mode_of (policy_type p)) (satisfies propositions p w)

pub record Typed (p : Policy) : Type 0 where
  pub mode : Mode
  pub bound : Bound
  pub has : policy_type p ≡ typed mode bound
