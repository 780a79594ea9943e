-- A reading as the nodes of a sheet: parts before their whole, left first, none shared.
-- Assumes nothing.
use Rattle.std.specs.Prelude.{List, [], ◌∷◌, ◌++◌, ℕ, ◌+◌, ◌-◌, length}
use Rattle.policy.specs.Formula.{Formula as ActionFormula, always-true, always-false, proposition, negation, conjunction, disjunction}
use Rattle.policy.specs.Policy.{Policy, now, holds-first, count, not-p, and-p, or-p, eventually, always, before-, before+, after-, after+, fulfilling, ignoring}
use Rattle.syntax.specs.declared.Node.{Node}
use Rattle.syntax.specs.declared.Node.TheVariants.{True, False, Proposition, Negation, Conjunction, Disjunction, Now, Holds, Count, Not, And, Or, Eventually, Always, BeforeMinus, BeforePlus, AfterMinus, AfterPlus, Fulfilling, Ignoring}
use Rattle.grammar.specs.Grammar.{Reading}
use Rattle.grammar.specs.declared.Category.{Category}
use Rattle.grammar.specs.declared.Category.TheVariants.{Text, Watched, Enforced, Formula, Number, End}

-- A whole behind the nodes of its parts, which are numbered from n on. A part's own node is the last of its nodes.
abbrev pub over_one : ℕ → List Node → (ℕ → Node) → List Node
over_one n a whole = a ++ (whole (n + length a - 1) ∷ [])

abbrev pub over_two : ℕ → List Node → List Node → (ℕ → ℕ → Node) → List Node
over_two n a b whole = a ++ (b ++ (whole (n + length a - 1) (n + length a + length b - 1) ∷ []))

abbrev pub over_three : ℕ → List Node → List Node → List Node → (ℕ → ℕ → ℕ → Node) → List Node
over_three n a b c whole =
    a ++ (b ++ (c ++ (whole (n + length a - 1) (n + length a + length b - 1) (n + length a + length b + length c - 1) ∷ [])))

-- The nodes of a formula, and of a policy, numbered from n on.
abbrev pub formula_nodes : ℕ → ActionFormula → List Node
formula_nodes n always-true = True ∷ []
formula_nodes n always-false = False ∷ []
formula_nodes n (proposition p) = Proposition p ∷ []
formula_nodes n (negation f) = over_one n (formula_nodes n f) Negation
formula_nodes n (conjunction f g) = over_two n (formula_nodes n f) (formula_nodes (n + length (formula_nodes n f)) g) Conjunction
formula_nodes n (disjunction f g) = over_two n (formula_nodes n f) (formula_nodes (n + length (formula_nodes n f)) g) Disjunction

abbrev pub policy_nodes : ℕ → Policy → List Node
policy_nodes n (now f) = over_one n (formula_nodes n f) Now
policy_nodes n (holds-first f) = over_one n (formula_nodes n f) Holds
policy_nodes n (count k) = Count k ∷ []
policy_nodes n (not-p a) = over_one n (policy_nodes n a) Not
policy_nodes n (and-p a b) = over_two n (policy_nodes n a) (policy_nodes (n + length (policy_nodes n a)) b) And
policy_nodes n (or-p a b) = over_two n (policy_nodes n a) (policy_nodes (n + length (policy_nodes n a)) b) Or
policy_nodes n (eventually a) = over_one n (policy_nodes n a) Eventually
policy_nodes n (always a) = over_one n (policy_nodes n a) Always
policy_nodes n (before- a b) = over_two n (policy_nodes n a) (policy_nodes (n + length (policy_nodes n a)) b) BeforeMinus
policy_nodes n (before+ a b) = over_two n (policy_nodes n a) (policy_nodes (n + length (policy_nodes n a)) b) BeforePlus
policy_nodes n (after- a b) = over_two n (policy_nodes n a) (policy_nodes (n + length (policy_nodes n a)) b) AfterMinus
policy_nodes n (after+ a b) = over_two n (policy_nodes n a) (policy_nodes (n + length (policy_nodes n a)) b) AfterPlus
policy_nodes n (fulfilling k a b c) =
    over_three n (policy_nodes n a) (policy_nodes (n + length (policy_nodes n a)) b)
    (policy_nodes (n + length (policy_nodes n a) + length (policy_nodes (n + length (policy_nodes n a)) b)) c) (Fulfilling k)
policy_nodes n (ignoring f b) = over_two n (formula_nodes n f) (policy_nodes (n + length (formula_nodes n f)) b) Ignoring

-- The nodes of a reading of any category: a number is an argument and no node.
abbrev pub nodes_of : (c : Category) → ℕ → Reading c → List Node
nodes_of Text n rule = policy_nodes n rule.policy
nodes_of Watched n p = policy_nodes n p
nodes_of Enforced n p = policy_nodes n p
nodes_of Formula n f = formula_nodes n f
nodes_of Number n k = []
nodes_of End n x = []
