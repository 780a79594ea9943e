-- How many nodes a whole has: one more than its parts. A formula and a policy have one or more.
-- Assumes nothing.
use mathlib.Core.Path.{◌≡◌}
use mathlib.Core.List.{List, [], ◌∷◌, ◌++◌}
use Prim.Native.Nat.{ℕ, ◌+◌, ◌≤◌}
use native.Mathlib.Omega.{arith}
use lib.ListN.{length, length-append}
use Rattle.policy.specs.Formula.{Formula as ActionFormula, always-true, always-false, proposition, negation, conjunction, disjunction}
use Rattle.policy.specs.Policy.{Policy, now, holds-first, count, not-p, and-p, or-p, eventually, always, before-, before+, after-, after+, fulfilling, ignoring}
use Rattle.syntax.specs.declared.Node.{Node}
use Rattle.grammar.specs.Grammar.{Reading}
use Rattle.grammar.specs.Nodes.{formula_nodes, policy_nodes, nodes_of}
use Rattle.grammar.specs.declared.Category.{Category}
use Rattle.grammar.specs.declared.Category.TheVariants.{Text, Watched, Enforced, Formula, Number, End}

pub length-one : (a : List Node) (x : Node) → length (a ++ (x ∷ [])) ≡ length a + 1
length-one a x = length-append a (x ∷ [])

pub length_two : (a b : List Node) (x : Node) → length (a ++ (b ++ (x ∷ []))) ≡ length a + length b + 1
length_two a b x = omega (arith, length-append a (b ++ (x ∷ [])), length-one b x)

pub length_three : (a b c : List Node) (x : Node) → length (a ++ (b ++ (c ++ (x ∷ [])))) ≡ length a + length b + length c + 1
length_three a b c x = omega (arith, length-append a (b ++ (c ++ (x ∷ []))), length_two b c x)

pub some-formula : (n : ℕ) (f : ActionFormula) → 1 ≤ length (formula_nodes n f)
some-formula n always-true = omega arith
some-formula n always-false = omega arith
some-formula n (proposition p) = omega arith
some-formula n (negation f) = simp length-append (omega arith)
some-formula n (conjunction f g) = simp length-append (omega arith)
some-formula n (disjunction f g) = simp length-append (omega arith)

pub some-policy : (n : ℕ) (p : Policy) → 1 ≤ length (policy_nodes n p)
some-policy n (now f) = simp length-append (omega arith)
some-policy n (holds-first f) = simp length-append (omega arith)
some-policy n (count k) = omega arith
some-policy n (not-p a) = simp length-append (omega arith)
some-policy n (and-p a b) = simp length-append (omega arith)
some-policy n (or-p a b) = simp length-append (omega arith)
some-policy n (eventually a) = simp length-append (omega arith)
some-policy n (always a) = simp length-append (omega arith)
some-policy n (before- a b) = simp length-append (omega arith)
some-policy n (before+ a b) = simp length-append (omega arith)
some-policy n (after- a b) = simp length-append (omega arith)
some-policy n (after+ a b) = simp length-append (omega arith)
some-policy n (fulfilling k a b c) = simp length-append (omega arith)
some-policy n (ignoring f b) = simp length-append (omega arith)

-- A category whose readings have nodes.
abbrev pub HasNodes : Category → Type 0
HasNodes Text = Unit {0}
HasNodes Watched = Unit {0}
HasNodes Enforced = Unit {0}
HasNodes Formula = Unit {0}
HasNodes Number = ⊥
HasNodes End = ⊥

pub some-node : (c : Category) → HasNodes c → (n : ℕ) (x : Reading c) → 1 ≤ length (nodes_of c n x)
some-node Text h n x = some-policy n x.policy
some-node Watched h n x = some-policy n x
some-node Enforced h n x = some-policy n x
some-node Formula h n x = some-formula n x
some-node Number h n x = absurd h
some-node End h n x = absurd h
