-- What the nodes of a sheet mean: each is an action formula or a policy over those before it. The last node is the policy.
-- Assumes nothing.
use Rattle.std.specs.Prelude.{List, [], ◌∷◌, ◌++◌, ℕ, zero, suc, ◌-◌, get_or}
use Rattle.policy.specs.Formula.{Formula, always-true, always-false, proposition, negation, conjunction, disjunction}
use Rattle.policy.specs.Policy.{Policy, now, holds-first, count, not-p, and-p, or-p, eventually, always, before-, before+, after-, after+, fulfilling, ignoring}
use Rattle.syntax.specs.Nodes.{node_at}
use Rattle.syntax.specs.Shape.{True, False, Proposition, Count, Negation, Now, Holds, Not, Eventually, Always, Conjunction, Disjunction, And, Or, BeforeMinus, BeforePlus, AfterMinus, AfterPlus, Ignoring, Fulfilling, Shape, leaf, unary, binary, ternary, shape_of, with_parts}
use Rattle.syntax.specs.declared.Node.{Node}
use Rattle.syntax.specs.declared.Sheet.{Sheet}

pub data Meaning : Type 0 where
  formula : Formula → Meaning
  policy : Policy → Meaning

-- A part's meaning. Where the part is of the other sort, which check 6 refuses, any will do.
abbrev pub as_formula : Meaning → Formula
as_formula (formula f) = f
as_formula (policy p) = always-false

abbrev pub as_policy : Meaning → Policy
as_policy (formula f) = now f
as_policy (policy p) = p

-- The meaning of a node over those of its parts.
abbrev pub meaning_from : Shape Meaning → Meaning
meaning_from (leaf True) = formula always-true
meaning_from (leaf False) = formula always-false
meaning_from (leaf (Proposition p)) = formula (proposition p)
meaning_from (unary Negation a) = formula (negation (as_formula a))
meaning_from (binary Conjunction a b) = formula (conjunction (as_formula a) (as_formula b))
meaning_from (binary Disjunction a b) = formula (disjunction (as_formula a) (as_formula b))
meaning_from (unary Now a) = policy (now (as_formula a))
meaning_from (unary Holds a) = policy (holds-first (as_formula a))
meaning_from (leaf (Count k)) = policy (count k)
meaning_from (unary Not a) = policy (not-p (as_policy a))
meaning_from (binary And a b) = policy (and-p (as_policy a) (as_policy b))
meaning_from (binary Or a b) = policy (or-p (as_policy a) (as_policy b))
meaning_from (unary Eventually a) = policy (eventually (as_policy a))
meaning_from (unary Always a) = policy (always (as_policy a))
meaning_from (binary BeforeMinus a b) = policy (before- (as_policy a) (as_policy b))
meaning_from (binary BeforePlus a b) = policy (before+ (as_policy a) (as_policy b))
meaning_from (binary AfterMinus a b) = policy (after- (as_policy a) (as_policy b))
meaning_from (binary AfterPlus a b) = policy (after+ (as_policy a) (as_policy b))
meaning_from (ternary (Fulfilling k) a b c) = policy (fulfilling k (as_policy a) (as_policy b) (as_policy c))
meaning_from (binary Ignoring a b) = policy (ignoring (as_formula a) (as_policy b))

-- The meaning of node i among those before.
abbrev pub meaning_at : List Meaning → ℕ → Meaning
meaning_at before i = get_or before i (formula always-false)

abbrev pub formula_at : List Meaning → ℕ → Formula
formula_at before i = as_formula (meaning_at before i)

abbrev pub policy_at : List Meaning → ℕ → Policy
policy_at before i = as_policy (meaning_at before i)

-- The meaning of a node from those of the nodes before it.
abbrev pub meaning_of : List Meaning → Node → Meaning
meaning_of before node = meaning_from (with_parts (meaning_at before) (shape_of node))

-- The meanings of the first n nodes.
abbrev pub meanings : List Node → ℕ → List Meaning
meanings nodes zero = []
meanings nodes (suc n) = meanings nodes n ++ (meaning_of (meanings nodes n) (node_at nodes n) ∷ [])

-- The policy of node n, and of the sheet.
abbrev pub node_policy : Sheet → ℕ → Policy
node_policy sheet n = policy_at (meanings sheet.nodes (suc n)) n

abbrev pub sheet_policy : Sheet → Policy
sheet_policy sheet = node_policy sheet (sheet.count - 1)
