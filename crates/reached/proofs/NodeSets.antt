-- The sets of nodes are right: a bit is set exactly where the node is used, or reached through And alone.
-- Assumes nothing.
use mathlib.Core.Path.{◌≡◌, refl, sym, ◌∙◌, subst}
use mathlib.Core.Bool.{true}
use mathlib.Core.Logic.{◌↔◌, ◌⊎◌, inl, inr}
use Prim.Native.Nat.{ℕ, ◌^◌, ◌-◌, ◌≤◌, ◌<◌}
use native.Mathlib.Omega.{arith}
use lib.Bits.{bit_or}
use Rattle.base.specs.Sets.{bit}
use Rattle.base.proofs.Bits.{bit-empty, power-exactly, or-exactly}
use Rattle.base.proofs.Truths.{not-true}
use Rattle.syntax.specs.Formed.{PartsBelow, Formed}
use Rattle.syntax.specs.Nodes.{node_of}
use Rattle.syntax.specs.Shape.{Conjunction, Disjunction, And, Or, BeforeMinus, BeforePlus, AfterMinus, AfterPlus, Ignoring, Shape, leaf, unary, binary, ternary, shape_of}
use Rattle.syntax.specs.declared.Node.{Node}
use Rattle.syntax.specs.declared.Sheet.{Sheet}
use Rattle.reached.specs.Reached.{Reached, reached_set}
use Rattle.reached.specs.Parts.{parts_in, parts_of, InParts, PartOf, Used, AndPart, left, right, ReachedByAnd, and_parts_in, and_parts, set_of_parts, part_sets, used_set, and_set, PartsEarlier}
use Rattle.reached.specs.declared.Parts.{Parts}
use Rattle.reached.specs.declared.Parts.TheVariants.{NoPart, OnePart, TwoParts, ThreeParts}
use Rattle.reached.proofs.ReachedSets.{reached-map, reached-no-later, reached-set}
use Rattle.reached.proofs.NodeParts.{part-has}

-- the bits of parts are the parts
in-set : (parts : Parts) (m : ℕ) → (bit (set_of_parts parts) m ≡ true) ↔ InParts parts m
in-set NoPart m = (λ e. not-true (sym (bit-empty m) ∙ e), λ h. absurd h)
in-set (OnePart a) m = power-exactly a m
in-set (TwoParts a b) m = or-exactly (2 ^ a) (2 ^ b) m (power-exactly a m) (power-exactly b m)
in-set (ThreeParts a b c) m =
    or-exactly (2 ^ a) (bit_or (2 ^ b) (2 ^ c)) m (power-exactly a m) (or-exactly (2 ^ b) (2 ^ c) m (power-exactly b m) (power-exactly c m))

-- parts stand before their node
pub part-below : (n m : ℕ) (node : Node) → PartsBelow n node → InParts (parts_of node) m → m < n
part-below n m node h p = part-has (λ i. i < n) (shape_of node) h p

-- what has parts of an And is one
and-shape : (m : ℕ) (shape : Shape ℕ) → InParts (and_parts_in shape) m → (a b : ℕ) × (shape ≡ binary And a b) × ((m ≡ a) ⊎ (m ≡ b))
and-shape m (leaf k) p = absurd p
and-shape m (unary k a) p = absurd p
and-shape m (binary Conjunction a b) p = absurd p
and-shape m (binary Disjunction a b) p = absurd p
and-shape m (binary And a b) p = (a, b, refl, p)
and-shape m (binary Or a b) p = absurd p
and-shape m (binary BeforeMinus a b) p = absurd p
and-shape m (binary BeforePlus a b) p = absurd p
and-shape m (binary AfterMinus a b) p = absurd p
and-shape m (binary AfterPlus a b) p = absurd p
and-shape m (binary Ignoring a b) p = absurd p
and-shape m (ternary k a b c) p = absurd p

-- the parts of an And are parts
pub and-in-parts : (m : ℕ) (node : Node) → InParts (and_parts node) m → InParts (parts_of node) m
and-in-parts m node p = let h = and-shape m (shape_of node) p in subst (λ (s : Shape ℕ). InParts (parts_in s) m) (sym h.2) h.3

-- the parts of an And stand before it
pub and-part-below : (n m : ℕ) (node : Node) → PartsBelow n node → InParts (and_parts node) m → m < n
and-part-below n m node h p = part-below n m node h (and-in-parts m node p)

-- AndPart, by the parts
and-node : (sheet : Sheet) (n m : ℕ) → InParts (and_parts (node_of sheet n)) m → AndPart sheet n m
and-node sheet n m p =
    let h = and-shape m (shape_of (node_of sheet n)) p in
    elim h.3 [ inl e ↦ subst (AndPart sheet n) (sym e) (left h.2) | inr e ↦ subst (AndPart sheet n) (sym e) (right h.2) ]

from-and : (sheet : Sheet) (n m : ℕ) → AndPart sheet n m → InParts (and_parts (node_of sheet n)) m
from-and sheet n m (left q) = rw q (inl refl)
from-and sheet n m (right q) = rw q (inr refl)

-- An And's part is a part of it.
pub and-is-part : (sheet : Sheet) (n m : ℕ) → AndPart sheet n m → PartOf sheet n m
and-is-part sheet n m p = and-in-parts m (node_of sheet n) (from-and sheet n m p)

module _ (sheet : Sheet) (parts : Node → Parts) (from : ℕ) (earlier : (n m : ℕ) → n ≤ from → InParts (parts (node_of sheet n)) m → m < n) where
  -- bit m of the set is set exactly where m is reached
  by-set : (m : ℕ) → (bit (reached_set (part_sets parts sheet.nodes) from) m ≡ true) ↔ Reached (λ n m. InParts (parts (node_of sheet n)) m) from m
  by-set m =
      let e = reached-set (part_sets parts sheet.nodes) from (λ n m h p. earlier n m h ((in-set (parts (node_of sheet n)) m).0 p)) m in (
        λ b. reached-map (λ n m p. (in-set (parts (node_of sheet n)) m).0 p) (e.0 b),
        λ r. e.1 (reached-map (λ n m p. (in-set (parts (node_of sheet n)) m).1 p) r),
      )

module _ (sheet : Sheet) (from : ℕ) (formed : PartsEarlier sheet.nodes from) where
  -- the parts of an And stand before it
  pub and-earlier : (n m : ℕ) → n ≤ from → AndPart sheet n m → m < n
  and-earlier n m h p = part-below n m (node_of sheet n) (formed n h) (and-is-part sheet n m p)

  -- Bit m of the set is set exactly where m is reached through And alone.
  pub reached-by-and : (m : ℕ) → (bit (and_set sheet.nodes from) m ≡ true) ↔ ReachedByAnd sheet from m
  reached-by-and m =
      let e = by-set sheet and_parts from (λ n m h p. and-part-below n m (node_of sheet n) (formed n h) p) m in
      (λ b. reached-map (λ n m p. and-node sheet n m p) (e.0 b), λ r. e.1 (reached-map (from-and sheet) r))

module _ (sheet : Sheet) (formed : Formed sheet) where
  pub all-earlier : PartsEarlier sheet.nodes (sheet.count - 1)
  all-earlier n h = formed.parts n (let g = formed.some-node in omega arith)

  -- Bit n of the set is set exactly where node n is used.
  pub used-exactly : (n : ℕ) → (bit (used_set sheet) n ≡ true) ↔ Used sheet n
  used-exactly n = by-set sheet parts_of (sheet.count - 1) (λ n m h p. part-below n m (node_of sheet n) (all-earlier n h) p) n

  -- a used node is a node
  pub used-below : {n : ℕ} → Used sheet n → n < sheet.count
  used-below r =
      let h = reached-no-later (λ n m h p. part-below n m (node_of sheet n) (all-earlier n h) p) r in
      let g = formed.some-node in
      omega arith
