-- What check 5 gives of a node: its parts stand before it, and its argument is in its range.
-- Assumes nothing.
use Rattle.std.specs.Prelude.{ℕ, ◌≤◌, ◌<◌}
use Rattle.syntax.specs.Nodes.{node_of}
use Rattle.syntax.specs.Shape.{LeafKind, True, False, Proposition, Count, Fulfilling, Shape, leaf, unary, binary, ternary, shape_of, AllOf}
use Rattle.syntax.specs.declared.Node.{Node}
use Rattle.syntax.specs.declared.Sheet.{Sheet}

-- Every part of a node has a number below n.
abbrev pub PartsBelow : ℕ → Node → Type 0
PartsBelow n node = AllOf (λ i. i < n) (shape_of node)

-- An argument is in its range: a proposition is 0 to 15, the count of kinds 12 and 22 is 1 to 60.
abbrev pub LeafFits : LeafKind → Type 0
LeafFits True = Unit {0}
LeafFits False = Unit {0}
LeafFits (Proposition p) = p ≤ 15
LeafFits (Count k) = (1 ≤ k) × (k ≤ 60)

abbrev pub ShapeFits : {P : Type 0} → Shape P → Type 0
ShapeFits (leaf k) = LeafFits k
ShapeFits (unary k a) = Unit {0}
ShapeFits (binary k a b) = Unit {0}
ShapeFits (ternary (Fulfilling k) a b c) = (1 ≤ k) × (k ≤ 60)

abbrev pub ArgumentFits : Node → Type 0
ArgumentFits node = ShapeFits (shape_of node)

-- A sheet that passes checks 2 and 5: its counts are in range, and each node is formed.
pub record Formed (sheet : Sheet) : Type 0 where
  pub some-action : 1 ≤ sheet.actions
  pub few-actions : sheet.actions ≤ 16
  pub some-node : 1 ≤ sheet.count
  pub few-nodes : sheet.count ≤ 64
  pub parts : (n : ℕ) → n < sheet.count → PartsBelow n (node_of sheet n)
  pub arguments : (n : ℕ) → n < sheet.count → ArgumentFits (node_of sheet n)
