-- Laws of the types of nodes one by one: a fault stays.
-- Assumes nothing.
use Rattle.syntax.specs.declared.NodeType.{NodeType}
use Rattle.syntax.specs.declared.Node.{Node}
use mathlib.Core.Path.{◌≡◌, ap, sym, ◌∙◌}
use mathlib.Core.Bool.{true}
use mathlib.Core.List.{List}
use Prim.Native.Nat.{ℕ, zero, suc, ◌≤◌, ◌<◌}
use native.Mathlib.Decide.{ℕ_discrete}
use native.Mathlib.Omega.{arith}
use Rattle.base.specs.Sets.{bit}
use Rattle.syntax.specs.Nodes.{node_at}
use Rattle.syntax.specs.Types.{TypeFound, type_at, type_node}
use Rattle.typing.specs.Typed.{mistyped, typed, type_next, type_nodes}
use Rattle.syntax.specs.declared.Fault.{Fault}

module _ (used : ℕ) (nodes : List Node) where
  fault-stays : (m n : ℕ) (f : Fault) (t : List NodeType) → type_nodes used nodes n ≡ mistyped f t → n ≤ m → type_nodes used nodes m ≡ mistyped f t
  fault-stays zero n f t e h = let z : n ≡ 0 = omega arith in rw z at e
  fault-stays (suc m) n f t e h = go (fault-stays m n f t e) (ℕ_discrete n (suc m))
    where
      go : (n ≤ m → type_nodes used nodes m ≡ mistyped f t) → Dec (n ≡ suc m) → type_nodes used nodes (suc m) ≡ mistyped f t
      go below (yes p) = rw p at e
      go below (no q) = rw (below (omega arith))

  -- the nodes before n are typed, and what is found of node n, a used one, is known
  module _ (n : ℕ) (types : List NodeType) (before : type_nodes used nodes n ≡ typed types) (in_use : bit used n ≡ true)
      (found : TypeFound) (is : found ≡ type_node (node_at nodes n) (type_at types)) where
    pub type-more : type_nodes used nodes (suc n) ≡ type_next n types found
    type-more = rw (before, in_use) (ap (type_next n types) (sym is))

    pub fault-at : (count : ℕ) (f : Fault) → n < count → type_next n types found ≡ mistyped f types → type_nodes used nodes count ≡ mistyped f types
    fault-at count f h e = fault-stays count (suc n) f types (type-more ∙ e) h
