-- A node over parts of any type: its kind, with its argument, over none, one, two or three parts. What is said of a node by its parts, as its
-- type and its meaning, is a function of its shape.
-- Assumes nothing.
use Rattle.std.specs.Prelude.{ℕ}
use Rattle.syntax.specs.declared.Node.{Node}
use Rattle.syntax.specs.declared.Node.TheVariants as node

-- The kinds by the number of their parts.
pub data LeafKind : Type 0 where
  True False : LeafKind
  Proposition : (p : ℕ) → LeafKind
  Count : (k : ℕ) → LeafKind

pub data UnaryKind : Type 0 where
  Negation Now Holds Not Eventually Always : UnaryKind

pub data BinaryKind : Type 0 where
  Conjunction Disjunction And Or BeforeMinus BeforePlus AfterMinus AfterPlus Ignoring : BinaryKind

pub data TernaryKind : Type 0 where
  Fulfilling : (k : ℕ) → TernaryKind

pub data Shape (P : Type 0) : Type 0 where
  leaf : LeafKind → Shape P
  unary : UnaryKind → P → Shape P
  binary : BinaryKind → (a b : P) → Shape P
  ternary : TernaryKind → (a b c : P) → Shape P

-- A node of a sheet, over the numbers of its parts.
abbrev pub shape_of : Node → Shape ℕ
shape_of node.True = leaf True
shape_of node.False = leaf False
shape_of (node.Proposition p) = leaf (Proposition p)
shape_of (node.Negation a) = unary Negation a
shape_of (node.Conjunction a b) = binary Conjunction a b
shape_of (node.Disjunction a b) = binary Disjunction a b
shape_of (node.Now a) = unary Now a
shape_of (node.Holds a) = unary Holds a
shape_of (node.Count k) = leaf (Count k)
shape_of (node.Not a) = unary Not a
shape_of (node.And a b) = binary And a b
shape_of (node.Or a b) = binary Or a b
shape_of (node.Eventually a) = unary Eventually a
shape_of (node.Always a) = unary Always a
shape_of (node.BeforeMinus a b) = binary BeforeMinus a b
shape_of (node.BeforePlus a b) = binary BeforePlus a b
shape_of (node.AfterMinus a b) = binary AfterMinus a b
shape_of (node.AfterPlus a b) = binary AfterPlus a b
shape_of (node.Fulfilling k a b c) = ternary (Fulfilling k) a b c
shape_of (node.Ignoring a b) = binary Ignoring a b

-- The same kind over other parts.
abbrev pub with_parts : {P Q : Type 0} → (P → Q) → Shape P → Shape Q
with_parts f (leaf k) = leaf k
with_parts f (unary k a) = unary k (f a)
with_parts f (binary k a b) = binary k (f a) (f b)
with_parts f (ternary k a b c) = ternary k (f a) (f b) (f c)

-- Q holds of every part.
abbrev pub AllOf : {P : Type 0} → (P → Type 0) → Shape P → Type 0
AllOf Q (leaf k) = Unit {0}
AllOf Q (unary k a) = Q a
AllOf Q (binary k a b) = Q a × Q b
AllOf Q (ternary k a b c) = Q a × Q b × Q c
