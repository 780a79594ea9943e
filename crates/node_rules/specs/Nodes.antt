-- The nodes of a sheet as policies, and as rules over their parts.
-- Assumes nothing.
use Rattle.std.specs.Prelude.{Bool, not, List, ℕ, suc}
use Rattle.automaton.specs.Machine.{transition}
use Rattle.policy.specs.Formula.{Formula, holds}
use Rattle.policy.specs.Typing.{Typing, policy_type}
use Rattle.policy.specs.Operators.{Property}
use Rattle.policy.specs.Rule.{Rule, opening-r, count-r, same-r, both_r, either_r, copied-r, before-r, after-r, fulfilling-r, ignoring-r, on_parts, on_watched}
use Rattle.policy.specs.Trips.{trips_policy}
use Rattle.policy.specs.Value.{Part, Value, remembered}
use Rattle.syntax.specs.Nodes.{node_of, propositions_of}
use Rattle.syntax.specs.Shape.{True, False, Proposition, Count, Negation, Now, Holds, Not, Eventually, Always, Conjunction, Disjunction, And, Or, BeforeMinus, BeforePlus, AfterMinus, AfterPlus, Ignoring, Fulfilling, Shape, leaf, unary, binary, ternary, shape_of, with_parts}
use Rattle.syntax.specs.Meaning.{meanings, formula_at, node_policy}
use Rattle.syntax.specs.declared.Node.{Node}
use Rattle.syntax.specs.declared.Sheet.{Sheet}

-- Which sequences trip node n.
abbrev pub trips_node : Sheet → ℕ → Property
trips_node sheet n w = trips_policy (propositions_of sheet) (node_policy sheet n) w

-- The formula of node n, and whether an action satisfies it.
abbrev pub node_formula : Sheet → ℕ → Formula
node_formula sheet n = formula_at (meanings sheet.nodes (suc n)) n

abbrev pub satisfied_by : Sheet → ℕ → ℕ → Bool
satisfied_by sheet n a = holds (node_formula sheet n) (propositions_of sheet a)

-- What a rule has of a part: of a policy the part itself and its type, of a formula which actions satisfy it.
pub record RulePart (P : Type 0) : Type 0 where
  pub part : P
  pub type : Typing
  pub hit : ℕ → Bool

-- A policy node's rule over its parts. A formula has none; any will do for it.
abbrev pub rule_from : {P : Type 0} → Shape (RulePart P) → Rule P
rule_from (leaf True) = count-r 1
rule_from (leaf False) = count-r 1
rule_from (leaf (Proposition p)) = count-r 1
rule_from (unary Negation a) = count-r 1
rule_from (binary Conjunction a b) = count-r 1
rule_from (binary Disjunction a b) = count-r 1
rule_from (unary Now a) = opening-r (λ x. a.hit x)
rule_from (unary Holds a) = opening-r (λ x. not (a.hit x))
rule_from (leaf (Count k)) = count-r k
rule_from (unary Not a) = same-r a.part
rule_from (binary And a b) = on_watched a.type (both_r a.part b.part) (either_r a.part b.part)
rule_from (binary Or a b) = on_watched a.type (either_r a.part b.part) (both_r a.part b.part)
rule_from (unary Eventually a) = copied-r a.part
rule_from (unary Always a) = copied-r a.part
rule_from (binary BeforeMinus a b) = before-r a.part b.part
rule_from (binary BeforePlus a b) = before-r a.part b.part
rule_from (binary AfterMinus a b) = after-r a.part b.part
rule_from (binary AfterPlus a b) = after-r a.part b.part
rule_from (ternary (Fulfilling k) a b c) = fulfilling-r k a.part b.part c.part
rule_from (binary Ignoring a b) = ignoring-r (λ x. a.hit x) b.part

-- Node i as a part: `stands i` is what stands for it.
abbrev pub rule_part : {P : Type 0} → Sheet → (stands : ℕ → P) → ℕ → RulePart P
rule_part sheet stands i = record { part = stands i; type = policy_type (node_policy sheet i); hit = satisfied_by sheet i }

-- A policy node's rule over the numbers of its parts.
abbrev pub rule_by : Sheet → Node → Rule ℕ
rule_by sheet node = rule_from (with_parts (rule_part sheet (λ i. i)) (shape_of node))

abbrev pub node_rule : Sheet → ℕ → Rule ℕ
node_rule sheet n = rule_by sheet (node_of sheet n)

-- The rows of earlier nodes: `tables i` is the list of entries of node i.
abbrev pub Tables : Type 0
Tables = ℕ → List ℕ

abbrev pub part_of : Sheet → Tables → ℕ → Part
part_of sheet tables i = transition 255 sheet.actions (tables i)

-- What node n remembers of a sequence, over the rows of its parts.
abbrev pub rule_on : Sheet → Tables → ℕ → Rule Part
rule_on sheet tables n = on_parts (part_of sheet tables) (node_rule sheet n)

abbrev pub remembered_at : (sheet : Sheet) (tables : Tables) (n : ℕ) → List ℕ → Value (rule_on sheet tables n)
remembered_at sheet tables n w = remembered (rule_on sheet tables n) w
