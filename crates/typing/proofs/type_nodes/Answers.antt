-- The goals of `typing::type_nodes` that the check leaves.
use Rattle.syntax.specs.Types.{TypeFound}
use Rattle.syntax.specs.declared.NodeType.{NodeType}
use Rattle.syntax.specs.declared.Node.{Node}
use mathlib.Core.Path.{◌≡◌, ap, sym}
use mathlib.Core.Bool.{true}
use mathlib.Core.List.{List}
use Prim.Native.Nat.{ℕ, ◌^◌, ◌/◌, ◌%◌}
use native.Mathlib.Omega.{arith}
use borrow.Author.Tests.{eq-eqb}
use Rattle.base.specs.Sets.{bit}
use Rattle.syntax.specs.declared.Fault.{Fault}
use Rattle.typing.specs.Typed.{Typings, mistyped, type_next, type_nodes, typed_nodes}
use Rattle.typing.proofs.Typings.{fault-at}
use Rattle.typing.proofs.type_nodes.Goals as goal
use Rattle.typing.proofs.type_nodes.Goals.{After-type_node}

-- what is found of node n, a used one
module _ (c : After-type_node) where
  abbrev used : ℕ
  used = c.args.used

  abbrev nodes : List Node
  nodes = c.args.nodes

  abbrev n : ℕ
  n = c.loop-n.n

  abbrev types : List NodeType
  types = c.loop-n.types

  abbrev found_as : TypeFound → Typings
  found_as = type_next n types

  in_use : bit used n ≡ true
  in_use = eq-eqb (used / 2 ^ n % 2) 1 (omega arith)

  faulty : (f : Fault) → found_as c.type_node.result ≡ mistyped f types
      → typed_nodes (mistyped f types) ≡ typed_nodes (type_nodes used nodes c.args.count)
  faulty f e =
      ap typed_nodes
      (sym (fault-at used nodes n types c.loop-n.invariant in_use c.type_node.result c.type_node.ensures _ f
      c.loop-n-test.true e))

pub returns-in-Err : goal.returns-in-Err
returns-in-Err c = let a = (goal.at.returns-in-Err c).After-type_node in rw c.at.ensures (faulty a _ (ap (found_as a) c.in-Err.is))
