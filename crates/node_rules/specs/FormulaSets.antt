-- The sets of a sheet's used formulas: for each, the actions of the sheet that satisfy it. What is built after them knows no more of a formula.
-- Assumes nothing.
use Rattle.std.specs.Prelude.{◌≡◌, true, List, ℕ, ◌^◌, ◌<◌, get_or}
use Rattle.std.specs.Int.Bits.{bit_and, bit_or}
use Rattle.base.specs.Build.{filled}
use Rattle.base.specs.Sets.{bit, set_below, every_below, others_below}
use Rattle.policy.specs.Formula.{holds}
use Rattle.syntax.specs.Nodes.{propositions_of}
use Rattle.syntax.specs.Types.{type_at}
use Rattle.syntax.specs.declared.Node.{Node}
use Rattle.syntax.specs.declared.Node.TheVariants.{True, False, Proposition, Negation, Conjunction, Disjunction, Now, Holds, Count, Not, And, Or, Eventually, Always, BeforeMinus, BeforePlus, AfterMinus, AfterPlus, Fulfilling, Ignoring}
use Rattle.syntax.specs.declared.NodeType.{NodeType}
use Rattle.syntax.specs.declared.NodeType.TheVariants.{Unused, Formula, Policy}
use Rattle.syntax.specs.declared.Sheet.{Sheet}
use Rattle.node_rules.specs.Nodes.{node_formula, satisfied_by}

-- The set of formula node n: the actions of the sheet that satisfy the formula.
abbrev pub satisfying : Sheet → ℕ → ℕ
satisfying sheet n = set_below (satisfied_by sheet n) sheet.actions

-- In quantifiers (`satisfying-exactly`, proofs/FormulaSets.antt): bit a of the set is set exactly when a is an action of the sheet that satisfies the
-- formula; so no bit is set from the number of actions up.
pub record SatisfyingExactly (sheet : Sheet) (n : ℕ) : Type 0 where
  pub sound : (a : ℕ) → bit (satisfying sheet n) a ≡ true → (a < sheet.actions) × (holds (node_formula sheet n) (propositions_of sheet a) ≡ true)
  pub complete : (a : ℕ) → a < sheet.actions → holds (node_formula sheet n) (propositions_of sheet a) ≡ true → bit (satisfying sheet n) a ≡ true
  pub width : satisfying sheet n < 2 ^ sheet.actions

-- The set of a node by its type: only a used formula has one.
abbrev pub of_formula : NodeType → ℕ → ℕ
of_formula Unused set = 0
of_formula Formula set = set
of_formula (Policy m k) set = 0

-- The sets of the first n nodes, and of all; behind them, empty ones.
abbrev pub first_sets : Sheet → List NodeType → ℕ → List ℕ
first_sets sheet types n = filled 64 0 (λ i sets. of_formula (type_at types i) (satisfying sheet i)) n

abbrev pub sets_of : Sheet → List NodeType → List ℕ
sets_of sheet types = first_sets sheet types sheet.count

-- The actions that satisfy proposition p.
abbrev pub proposition_set : (propositions : List ℕ) (actions p : ℕ) → ℕ
proposition_set propositions actions p = set_below (λ a. bit (get_or propositions a 0) p) actions

-- The set of a formula node from those of its parts: one look at each action for a proposition, one operation on all of them for the rest. A policy
-- has none; any will do for it.
abbrev pub set_from : (propositions : List ℕ) (actions : ℕ) → (ℕ → ℕ) → Node → ℕ
set_from propositions actions sets True = every_below actions
set_from propositions actions sets False = 0
set_from propositions actions sets (Proposition p) = proposition_set propositions actions p
set_from propositions actions sets (Negation a) = others_below actions (sets a)
set_from propositions actions sets (Conjunction a b) = bit_and (sets a) (sets b)
set_from propositions actions sets (Disjunction a b) = bit_or (sets a) (sets b)
set_from propositions actions sets (Now a) = 0
set_from propositions actions sets (Holds a) = 0
set_from propositions actions sets (Count k) = 0
set_from propositions actions sets (Not a) = 0
set_from propositions actions sets (And a b) = 0
set_from propositions actions sets (Or a b) = 0
set_from propositions actions sets (Eventually a) = 0
set_from propositions actions sets (Always a) = 0
set_from propositions actions sets (BeforeMinus a b) = 0
set_from propositions actions sets (BeforePlus a b) = 0
set_from propositions actions sets (AfterMinus a b) = 0
set_from propositions actions sets (AfterPlus a b) = 0
set_from propositions actions sets (Fulfilling k a b c) = 0
set_from propositions actions sets (Ignoring a b) = 0
