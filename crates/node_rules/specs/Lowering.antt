-- Lowering the used policy nodes of a list to rules: of a formula the rule has its set, and nothing here knows what a formula or an action's
-- propositions are.
-- Assumes nothing.
use Rattle.std.specs.Prelude.{◌≡◌, Bool, List, ℕ, Option, Some, None, ◌<◌, get_or}
use Rattle.base.specs.Build.{filled}
use Rattle.base.specs.Sets.{others_below}
use Rattle.trace.specs.declared.Mode.{Mode}
use Rattle.trace.specs.declared.Mode.TheVariants.{Enforced, Watched}
use Rattle.policy.specs.Rule.{Rule, opening-r, ignoring-r}
use Rattle.syntax.specs.Nodes.{node_at}
use Rattle.syntax.specs.Types.{type_at}
use Rattle.syntax.specs.declared.Node.{Node}
use Rattle.syntax.specs.declared.Node.TheVariants.{True, False, Proposition, Negation, Conjunction, Disjunction, Now, Holds, Count, Not, And, Or, Eventually, Always, BeforeMinus, BeforePlus, AfterMinus, AfterPlus, Fulfilling, Ignoring}
use Rattle.syntax.specs.declared.NodeType.{NodeType}
use Rattle.syntax.specs.declared.NodeType.TheVariants.{Unused, Formula, Policy}
use Rattle.rules.specs.declared.NodeRule.{NodeRule}
use Rattle.rules.specs.declared.NodeRule.TheVariants as coded

-- And and Or go by their mode, which is that of their parts.
abbrev pub by_mode : Mode → NodeRule → NodeRule → NodeRule
by_mode Watched watched enforced = watched
by_mode Enforced watched enforced = enforced

-- The rule of a policy node of a mode. Holds trips on the actions that are not in its formula's set.
abbrev pub lowered : Mode → (actions : ℕ) → (sets : ℕ → ℕ) → Node → Option NodeRule
lowered mode actions sets True = None
lowered mode actions sets False = None
lowered mode actions sets (Proposition p) = None
lowered mode actions sets (Negation a) = None
lowered mode actions sets (Conjunction a b) = None
lowered mode actions sets (Disjunction a b) = None
lowered mode actions sets (Now a) = Some (coded.Opening (sets a))
lowered mode actions sets (Holds a) = Some (coded.Opening (others_below actions (sets a)))
lowered mode actions sets (Count k) = Some (coded.Count k)
lowered mode actions sets (Not a) = Some (coded.Same a)
lowered mode actions sets (And a b) = Some (by_mode mode (coded.Both a b) (coded.Either a b))
lowered mode actions sets (Or a b) = Some (by_mode mode (coded.Either a b) (coded.Both a b))
lowered mode actions sets (Eventually a) = Some (coded.Copied a)
lowered mode actions sets (Always a) = Some (coded.Copied a)
lowered mode actions sets (BeforeMinus a b) = Some (coded.Before a b)
lowered mode actions sets (BeforePlus a b) = Some (coded.Before a b)
lowered mode actions sets (AfterMinus a b) = Some (coded.After a b)
lowered mode actions sets (AfterPlus a b) = Some (coded.After a b)
lowered mode actions sets (Fulfilling k a b c) = Some (coded.Fulfilling k a b c)
lowered mode actions sets (Ignoring a b) = Some (coded.Ignoring (sets a) b)

-- The rule of a node by its type: only a used policy has one.
abbrev pub of_policy : NodeType → (Mode → Option NodeRule) → Option NodeRule
of_policy Unused rule = None
of_policy Formula rule = None
of_policy (Policy m k) rule = rule m

-- The set of node i in a list.
abbrev pub set_at : List ℕ → ℕ → ℕ
set_at sets i = get_or sets i 0

-- The rules of the first n nodes; after them none.
abbrev pub rules_of : List Node → List NodeType → (sets : List ℕ) → (actions n : ℕ) → List (Option NodeRule)
rules_of nodes types sets actions n =
    filled 64 None (λ i rules. of_policy (type_at types i) (λ m. lowered m actions (set_at sets) (node_at nodes i))) n

-- Two rules say the same of the actions below `actions`.
pub data SameRule (actions : ℕ) : Rule ℕ → Rule ℕ → Type 0 where
  opens : (h g : ℕ → Bool) → ((a : ℕ) → a < actions → h a ≡ g a) → SameRule actions (opening-r h) (opening-r g)
  filters : (h g : ℕ → Bool) → ((a : ℕ) → a < actions → h a ≡ g a) → (p : ℕ) → SameRule actions (ignoring-r h p) (ignoring-r g p)
  equal : (r : Rule ℕ) → SameRule actions r r
