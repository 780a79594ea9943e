-- Sheets with the same used nodes: the last node goes to the last, order and numbers go back, and a node is the same over its parts.
-- Assumes nothing.
use mathlib.Core.Path.{◌≡◌, ap, ◌∙◌}
use Prim.Native.Nat.{ℕ, ◌-◌, ◌<◌}
use native.Mathlib.Decide.{dec_lt}
use native.Mathlib.Omega.{arith}
use Rattle.syntax.specs.Formed.{Formed}
use Rattle.syntax.specs.Nodes.{node_of}
use Rattle.syntax.specs.Shape.{shape_of, with_parts}
use Rattle.syntax.specs.declared.Sheet.{Sheet}
use Rattle.syntax.proofs.EqualParts.{with-parts-twice}
use Rattle.reached.specs.Reached.{itself, onward}
use Rattle.reached.specs.Parts.{PartOf, Used}
use Rattle.reached.proofs.NodeSets.{part-below, used-below}
use Rattle.renumbering.specs.SameUsed.{SameUsed}

-- a part of a used node is used, and stands before it
pub part-used : (sheet : Sheet) → Formed sheet → {n m : ℕ} → Used sheet n → PartOf sheet n m → Used sheet m × (m < n)
part-used sheet formed {n} {m} u p = (onward u p, part-below n m (node_of sheet n) (formed.parts n (used-below sheet formed u)) p)

module _ {sheet other : Sheet} (formed : Formed sheet) (formed' : Formed other) (same : SameUsed sheet other) where
  -- The last node goes to the last node.
  pub last-to-last : same.to (sheet.count - 1) ≡ other.count - 1
  last-to-last =
      let from = same.onto (other.count - 1) itself in
      let below = used-below other formed' (same.used (sheet.count - 1) itself) in
      let first = used-below sheet formed from.1 in
      let meets = from.2 in
      elim (dec_lt from.0 (sheet.count - 1)) [
        | yes h ↦ absurd (let g = same.order from.0 (sheet.count - 1) from.1 itself h in omega arith)
        | no h ↦ (let e : sheet.count - 1 ≡ from.0 = omega arith in ap same.to e ∙ meets)
      ]

  -- the order is kept backwards, and no two numbers go to one
  pub order-back : (n m : ℕ) → Used sheet n → Used sheet m → same.to n < same.to m → n < m
  order-back n m u v h =
      elim (dec_lt n m) [
        | yes g ↦ g
        | no g ↦ elim (dec_lt m n) [
          | yes k ↦ absurd (let l = same.order m n v u k in omega arith)
          | no k ↦ absurd (let l : same.to n ≡ same.to m = ap same.to (omega arith) in omega arith)
        ]
      ]

  pub one_number : (n m : ℕ) → Used sheet n → Used sheet m → same.to n ≡ same.to m → n ≡ m
  one_number n m u v e =
      elim (dec_lt n m) [
        | yes g ↦ absurd (let l = same.order n m u v g in omega arith)
        | no g ↦ elim (dec_lt m n) [ yes k ↦ absurd (let l = same.order m n v u k in omega arith) | no k ↦ omega arith ]
      ]

-- a used node of the other sheet, over parts of any type, is the node of the first over the parts of the new numbers
pub node-along : {sheet other : Sheet} (same : SameUsed sheet other) {X : Type 0} (f : ℕ → X) (n : ℕ) → Used sheet n
    → with_parts f (shape_of (node_of other (same.to n))) ≡ with_parts (λ i. f (same.to i)) (shape_of (node_of sheet n))
node-along {sheet} same f n u = ap (with_parts f) (same.nodes n u) ∙ with-parts-twice f same.to (shape_of (node_of sheet n))
