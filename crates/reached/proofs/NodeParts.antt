-- Laws of a node's parts: what holds of every part holds of each, and over equal parts a node is the same.
-- Assumes nothing.
use mathlib.Core.Path.{◌≡◌, refl, sym, subst}
use mathlib.Core.Logic.{inl, inr}
use Prim.Native.Nat.{ℕ}
use Rattle.syntax.specs.Shape.{Shape, leaf, unary, binary, ternary, shape_of, with_parts, AllOf}
use Rattle.syntax.specs.declared.Node.{Node}
use Rattle.syntax.proofs.EqualParts.{equal-parts}
use Rattle.reached.specs.Parts.{parts_in, parts_of, InParts}

module _ (Q : ℕ → Type 0) where
  pub part-has : (shape : Shape ℕ) {m : ℕ} → AllOf Q shape → InParts (parts_in shape) m → Q m
  part-has (leaf k) h p = absurd p
  part-has (unary k a) h p = subst Q (sym p) h
  part-has (binary k a b) h (inl e) = subst Q (sym e) h.0
  part-has (binary k a b) h (inr e) = subst Q (sym e) h.1
  part-has (ternary k a b c) h (inl e) = subst Q (sym e) h.0
  part-has (ternary k a b c) h (inr (inl e)) = subst Q (sym e) h.1
  part-has (ternary k a b c) h (inr (inr e)) = subst Q (sym e) h.2

  all-parts : (shape : Shape ℕ) → ((i : ℕ) → InParts (parts_in shape) i → Q i) → AllOf Q shape
  all-parts (leaf k) h = tt
  all-parts (unary k a) h = h a refl
  all-parts (binary k a b) h = (h a (inl refl), h b (inr refl))
  all-parts (ternary k a b c) h = (h a (inl refl), h b (inr (inl refl)), h c (inr (inr refl)))

pub over_equal : {X : Type 0} (f g : ℕ → X) (node : Node) → ((i : ℕ) → InParts (parts_of node) i → f i ≡ g i)
    → with_parts f (shape_of node) ≡ with_parts g (shape_of node)
over_equal f g node same = equal-parts f g (shape_of node) (all-parts (λ i. f i ≡ g i) (shape_of node) same)
