-- The goals of `sheet_reading::reading::read_nodes` that the check leaves.
use Rattle.syntax.specs.declared.Node.{Node}
use mathlib.Core.Path.{◌≡◌, ap, sym, ◌∙◌}
use mathlib.Core.List.{List}
use Prim.Native.Nat.{ℕ, suc, ◌+◌, ◌*◌}
use native.Mathlib.Numerals.{add-one}
use native.Mathlib.Omega.{arith}
use Rattle.syntax.specs.declared.Fault.{Fault}
use Rattle.sheet_reading.specs.Reading.{NodeRead, node_read, stopped_at, read_next, read_nodes}
use Rattle.sheet_reading.specs.declared.NodesRead.{NodesRead}
use Rattle.sheet_reading.proofs.ReadNodes.{node-at, read_more, stopped-at}
use Rattle.sheet_reading.proofs.reading.read_nodes.Goals as goal
use Rattle.sheet_reading.proofs.reading.read_nodes.Goals.{After-read_node-read}

-- what is read of node n
module _ (c : After-read_node-read) where
  abbrev bytes : List ℕ
  bytes = c.args.bytes.now

  abbrev count : ℕ
  count = c.args.count

  abbrev n : ℕ
  n = c.loop-n.n

  abbrev nodes : List Node
  nodes = c.loop-n.nodes

  abbrev read_as : NodeRead → NodesRead
  read_as = read_next n nodes

  is : c.read_node-read.result ≡ node_read bytes n
  is =
      node-at bytes n (c.args.from + 5 * n) c.read_node-read.result (ap (λ (at : ℕ). at + 5 * n) (c.requires.from_value (omega arith))) c.read_node-read.ensures

  more : read_nodes bytes (suc n) ≡ read_as c.read_node-read.result
  more = read_more bytes n nodes c.loop-n.invariant c.read_node-read.result is

  stopped : (f : Fault) → read_as c.read_node-read.result ≡ stopped_at nodes f → stopped_at nodes f ≡ read_nodes bytes count
  stopped f e =
      sym (stopped-at bytes n nodes c.loop-n.invariant c.read_node-read.result is count f c.loop-n-test.true e)

pub returns-in_default : goal.returns-in_default
returns-in_default c =
    let a = (goal.at.returns-in_default c).After-read_node-read in
    rw (c.judged_at.ensures, c.in_default.is) (stopped a _ (ap (read_as a) c.in_default.is))

pub loop-n-preserved : goal.loop-n-preserved
loop-n-preserved c =
    let a = (goal.at.loop-n-preserved c).After-read_node-read in
    rw (add-one (n a)) (more a ∙ ap (read_as a) c.in-Ok.is)
