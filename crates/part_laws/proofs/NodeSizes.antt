-- How many nodes a policy is: as many as its sheet has.
-- Assumes nothing.
use mathlib.Core.Path.{◌≡◌, refl}
use Prim.Native.Nat.{ℕ, ◌+◌}
use native.Mathlib.Omega.{arith}
use lib.ListN.{length, length-append}
use Rattle.policy.specs.Formula.{Formula as ActionFormula, always-true, always-false, proposition, negation, conjunction, disjunction}
use Rattle.policy.specs.Policy.{Policy, now, holds-first, count, not-p, and-p, or-p, eventually, always, before-, before+, after-, after+, fulfilling, ignoring}
use Rattle.grammar.specs.Nodes.{formula_nodes, policy_nodes}
use Rattle.part_laws.specs.Spelled.{formula_size, policy_size}

pub formula-size : (n : ℕ) (f : ActionFormula) → formula_size f ≡ length (formula_nodes n f)
formula-size n always-true = refl
formula-size n always-false = refl
formula-size n (proposition p) = refl
formula-size n (negation f) = simp length-append (omega (arith, formula-size n f))
formula-size n (conjunction f g) = simp length-append (omega (arith, formula-size n f, formula-size (n + length (formula_nodes n f)) g))
formula-size n (disjunction f g) = simp length-append (omega (arith, formula-size n f, formula-size (n + length (formula_nodes n f)) g))

pub policy-size : (n : ℕ) (p : Policy) → policy_size p ≡ length (policy_nodes n p)
policy-size n (now f) = simp length-append (omega (arith, formula-size n f))
policy-size n (holds-first f) = simp length-append (omega (arith, formula-size n f))
policy-size n (count k) = refl
policy-size n (not-p a) = simp length-append (omega (arith, policy-size n a))
policy-size n (and-p a b) = simp length-append (omega (arith, policy-size n a, policy-size (n + length (policy_nodes n a)) b))
policy-size n (or-p a b) = simp length-append (omega (arith, policy-size n a, policy-size (n + length (policy_nodes n a)) b))
policy-size n (eventually a) = simp length-append (omega (arith, policy-size n a))
policy-size n (always a) = simp length-append (omega (arith, policy-size n a))
policy-size n (before- a b) = simp length-append (omega (arith, policy-size n a, policy-size (n + length (policy_nodes n a)) b))
policy-size n (before+ a b) = simp length-append (omega (arith, policy-size n a, policy-size (n + length (policy_nodes n a)) b))
policy-size n (after- a b) = simp length-append (omega (arith, policy-size n a, policy-size (n + length (policy_nodes n a)) b))
policy-size n (after+ a b) = simp length-append (omega (arith, policy-size n a, policy-size (n + length (policy_nodes n a)) b))
policy-size n (fulfilling k a b c) =
    simp length-append
    (omega (arith, policy-size n a, policy-size (n + length (policy_nodes n a)) b, policy-size (n + length (policy_nodes n a) + length (policy_nodes (n + length (policy_nodes n a)) b)) c))
policy-size n (ignoring f b) = simp length-append (omega (arith, formula-size n f, policy-size (n + length (formula_nodes n f)) b))
