-- The nodes of a sheet that are used: the last one, and every part of a used one; and those reached from a node through And alone.
-- Each as a relation, and as a set of bits. proofs/NodeSets.antt: a bit is set exactly where the relation holds.
-- Assumes nothing.
use Rattle.std.specs.Prelude.{◌≡◌, ◌⊎◌, List, ℕ, ◌^◌, ◌-◌, ◌≤◌}
use Rattle.std.specs.Int.Bits.{bit_or}
use Rattle.syntax.specs.Formed.{PartsBelow}
use Rattle.syntax.specs.Nodes.{node_at, node_of}
use Rattle.syntax.specs.Shape.{Conjunction, Disjunction, And, Or, BeforeMinus, BeforePlus, AfterMinus, AfterPlus, Ignoring, Shape, leaf, unary, binary, ternary, shape_of}
use Rattle.syntax.specs.declared.Node.{Node}
use Rattle.syntax.specs.declared.Sheet.{Sheet}
use Rattle.reached.specs.Reached.{Reached, reached_set}
use Rattle.reached.specs.declared.Parts.{Parts}
use Rattle.reached.specs.declared.Parts.TheVariants.{NoPart, OnePart, TwoParts, ThreeParts}

-- The parts of a node, action formulas among them.
abbrev pub parts_in : Shape ℕ → Parts
parts_in (leaf k) = NoPart
parts_in (unary k a) = OnePart a
parts_in (binary k a b) = TwoParts a b
parts_in (ternary k a b c) = ThreeParts a b c

abbrev pub parts_of : Node → Parts
parts_of node = parts_in (shape_of node)

-- m is among these parts.
abbrev pub InParts : Parts → ℕ → Type 0
InParts NoPart m = ⊥
InParts (OnePart a) m = m ≡ a
InParts (TwoParts a b) m = (m ≡ a) ⊎ (m ≡ b)
InParts (ThreeParts a b c) m = (m ≡ a) ⊎ ((m ≡ b) ⊎ (m ≡ c))

-- m is a part of node n.
abbrev pub PartOf : Sheet → ℕ → ℕ → Type 0
PartOf sheet n m = InParts (parts_of (node_of sheet n)) m

-- A node is used: it is the last one (`itself`), or a part of a used one (`onward`).
abbrev pub Used : Sheet → ℕ → Type 0
Used sheet = Reached (PartOf sheet) (sheet.count - 1)

-- m is a part of n, and n is an And (kind 14).
pub data AndPart (sheet : Sheet) (n : ℕ) : ℕ → Type 0 where
  left : {a b : ℕ} → shape_of (node_of sheet n) ≡ binary And a b → AndPart sheet n a
  right : {a b : ℕ} → shape_of (node_of sheet n) ≡ binary And a b → AndPart sheet n b

-- The nodes reached from one through And alone, itself among them.
abbrev pub ReachedByAnd : Sheet → (from : ℕ) → ℕ → Type 0
ReachedByAnd sheet from = Reached (AndPart sheet) from

-- The parts of an And; none of any other node.
abbrev pub and_parts_in : Shape ℕ → Parts
and_parts_in (leaf k) = NoPart
and_parts_in (unary k a) = NoPart
and_parts_in (binary Conjunction a b) = NoPart
and_parts_in (binary Disjunction a b) = NoPart
and_parts_in (binary And a b) = TwoParts a b
and_parts_in (binary Or a b) = NoPart
and_parts_in (binary BeforeMinus a b) = NoPart
and_parts_in (binary BeforePlus a b) = NoPart
and_parts_in (binary AfterMinus a b) = NoPart
and_parts_in (binary AfterPlus a b) = NoPart
and_parts_in (binary Ignoring a b) = NoPart
and_parts_in (ternary k a b c) = NoPart

abbrev pub and_parts : Node → Parts
and_parts node = and_parts_in (shape_of node)

-- Parts as a set of bits.
abbrev pub set_of_parts : Parts → ℕ
set_of_parts NoPart = 0
set_of_parts (OnePart a) = 2 ^ a
set_of_parts (TwoParts a b) = bit_or (2 ^ a) (2 ^ b)
set_of_parts (ThreeParts a b c) = bit_or (2 ^ a) (bit_or (2 ^ b) (2 ^ c))

-- The set of the parts that are gone to from node n.
abbrev pub part_sets : (Node → Parts) → List Node → ℕ → ℕ
part_sets parts nodes n = set_of_parts (parts (node_at nodes n))

-- The set of the used nodes of a sheet, and of those that are reached from one through And alone.
abbrev pub used_set : Sheet → ℕ
used_set sheet = reached_set (part_sets parts_of sheet.nodes) (sheet.count - 1)

abbrev pub and_set : List Node → (from : ℕ) → ℕ
and_set nodes from = reached_set (part_sets and_parts nodes) from

-- Parts stand before their node.
abbrev pub PartsEarlier : List Node → (from : ℕ) → Type 0
PartsEarlier nodes from = (n : ℕ) → n ≤ from → PartsBelow n (node_at nodes n)
