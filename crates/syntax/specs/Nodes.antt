-- A sheet as syntax: a list of nodes, each over earlier ones, and the propositions of each action. The last node is the policy.
-- Assumes nothing.
use Rattle.std.specs.Prelude.{List, ℕ, get_or, replicate}
use Rattle.syntax.specs.declared.Node.{Node}
use Rattle.syntax.specs.declared.Node.TheVariants.{True}
use Rattle.syntax.specs.declared.Sheet.{Sheet}

-- What stands after the last node of a list of 64, and after the last action of a list of 16.
abbrev pub no_nodes : List Node
no_nodes = replicate 64 True

abbrev pub no_propositions : List ℕ
no_propositions = replicate 16 0

-- Node n of a list.
abbrev pub node_at : List Node → ℕ → Node
node_at nodes n = get_or nodes n True

abbrev pub node_of : Sheet → ℕ → Node
node_of sheet n = node_at sheet.nodes n

-- Entry a of the action list: bit p is set when the action satisfies proposition p.
abbrev pub propositions_of : Sheet → ℕ → ℕ
propositions_of sheet a = get_or sheet.propositions a 0

-- A sheet by its fields.
abbrev pub sheet_of : (actions : ℕ) (propositions : List ℕ) (count : ℕ) (nodes : List Node) → Sheet
sheet_of actions propositions count nodes = record { actions = actions; propositions = propositions; count = count; nodes = nodes }
