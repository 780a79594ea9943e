-- A node's rule over whatever stands for its parts.
-- Assumes nothing.
use mathlib.Core.Path.{◌≡◌, refl, ap, ◌∙◌}
use Prim.Native.Nat.{ℕ}
use Rattle.std.specs.Prelude.{None}
use Rattle.policy.specs.Typing.{typed as Typed, Typing}
use Rattle.trace.specs.declared.Mode.TheVariants.{Watched, Enforced}
use Rattle.policy.specs.Rule.{Rule, on_parts, on_watched}
use Rattle.syntax.specs.Shape.{True, False, Proposition, Count, Negation, Now, Holds, Not, Eventually, Always, Conjunction, Disjunction, And, Or, BeforeMinus, BeforePlus, AfterMinus, AfterPlus, Ignoring, Fulfilling, Shape, leaf, unary, binary, ternary, shape_of, with_parts}
use Rattle.syntax.specs.declared.Node.{Node}
use Rattle.syntax.specs.declared.Sheet.{Sheet}
use Rattle.syntax.proofs.EqualParts.{with-parts-twice}
use Rattle.node_rules.specs.Nodes.{RulePart, rule_from, rule_part, rule_by}

module _ {P Q : Type 0} (f : P → Q) where
  on-watched : (r s : Rule P) (t : Typing) → on_parts f (on_watched t r s) ≡ on_watched t (on_parts f r) (on_parts f s)
  on-watched r s (Typed Watched k) = refl
  on-watched r s (Typed Enforced k) = refl
  on-watched r s None = refl

  abbrev other : RulePart P → RulePart Q
  other a = record { part = f a.part; type = a.type; hit = a.hit }

  rule-with : (shape : Shape (RulePart P)) → on_parts f (rule_from shape) ≡ rule_from (with_parts other shape)
  rule-with (leaf True) = refl
  rule-with (leaf False) = refl
  rule-with (leaf (Proposition p)) = refl
  rule-with (leaf (Count k)) = refl
  rule-with (unary Negation a) = refl
  rule-with (unary Now a) = refl
  rule-with (unary Holds a) = refl
  rule-with (unary Not a) = refl
  rule-with (unary Eventually a) = refl
  rule-with (unary Always a) = refl
  rule-with (binary Conjunction a b) = refl
  rule-with (binary Disjunction a b) = refl
  rule-with (binary And a b) = on-watched _ _ a.type
  rule-with (binary Or a b) = on-watched _ _ a.type
  rule-with (binary BeforeMinus a b) = refl
  rule-with (binary BeforePlus a b) = refl
  rule-with (binary AfterMinus a b) = refl
  rule-with (binary AfterPlus a b) = refl
  rule-with (binary Ignoring a b) = refl
  rule-with (ternary (Fulfilling k) a b c) = refl

-- The rule over the parts' numbers, with what stands for each put in its place.
pub rule-over : {P : Type 0} (sheet : Sheet) (stands : ℕ → P) (node : Node)
    → on_parts stands (rule_by sheet node) ≡ rule_from (with_parts (rule_part sheet stands) (shape_of node))
rule-over sheet stands node =
    rule-with stands (with_parts (rule_part sheet (λ i. i)) (shape_of node)) ∙ ap rule_from (with-parts-twice (other stands) (rule_part sheet (λ i. i)) (shape_of node))
