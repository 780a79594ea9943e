-- What the node that is named for a denial is.
-- Assumes nothing.
use Rattle.std.specs.Prelude.{◌≡◌, true, false, List, ℕ, suc, ◌≤◌, ◌<◌, take}
use Rattle.trace.specs.declared.Mode.TheVariants.{Enforced}
use Rattle.policy.specs.declared.Bound.{Bound}
use Rattle.syntax.specs.Nodes.{node_of}
use Rattle.syntax.specs.Types.{type_at}
use Rattle.syntax.specs.declared.Node.TheVariants.{And}
use Rattle.syntax.specs.declared.NodeType.TheVariants.{Policy}
use Rattle.syntax.specs.declared.Sheet.{Sheet}
use Rattle.syntax.specs.declared.NodeType.{NodeType}
use Rattle.explaining.specs.Denials.{satisfies_node}

-- A node of the sheet, an enforced policy and no And, that the permitted actions satisfy, and every front of them, and that they violate with the
-- denied one.
pub record NamedNode (sheet : Sheet) (types : List NodeType) (list : List ℕ) (place node : ℕ) : Type 0 where
  pub inside : node < sheet.count
  pub bound : Bound
  pub enforced : type_at types node ≡ Policy Enforced bound
  pub no-and : (a b : ℕ) → node_of sheet node ≡ And a b → ⊥
  pub satisfied-before : (k : ℕ) → k ≤ place → satisfies_node sheet node (take k list) ≡ true
  pub violated : satisfies_node sheet node (take (suc place) list) ≡ false
