-- Laws of nodes over any parts: equal parts give equal nodes, and parts may be given in two steps.
-- Assumes nothing.
use mathlib.Core.Path.{◌≡◌, refl}
use Rattle.syntax.specs.Shape.{Shape, leaf, unary, binary, ternary, with_parts, AllOf}

pub with-parts-same : {P : Type 0} (shape : Shape P) → with_parts (λ a. a) shape ≡ shape
with-parts-same (leaf k) = refl
with-parts-same (unary k a) = refl
with-parts-same (binary k a b) = refl
with-parts-same (ternary k a b c) = refl

pub with-parts-twice : {P Q R : Type 0} (g : Q → R) (f : P → Q) (shape : Shape P) → with_parts g (with_parts f shape) ≡ with_parts (λ a. g (f a)) shape
with-parts-twice g f (leaf k) = refl
with-parts-twice g f (unary k a) = refl
with-parts-twice g f (binary k a b) = refl
with-parts-twice g f (ternary k a b c) = refl

-- The law of equal parts. So whatever is a function of the shape, as a node's type and meaning are, is equal where the parts are.
pub equal-parts : {P Q : Type 0} (f g : P → Q) (shape : Shape P) → AllOf (λ a. f a ≡ g a) shape → with_parts f shape ≡ with_parts g shape
equal-parts f g (leaf k) same = refl
equal-parts f g (unary k a) same = rw same
equal-parts f g (binary k a b) same = rw (same.0, same.1)
equal-parts f g (ternary k a b c) same = rw (same.0, same.1, same.2)
