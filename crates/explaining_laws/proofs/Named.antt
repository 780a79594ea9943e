-- The node that is named for a denial: an enforced policy of the sheet and no And, first violated by the denied action.
-- Assumes nothing.
use mathlib.Core.Path.{◌≡◌, refl, sym, ap, ◌∙◌}
use mathlib.Core.Bool.{true}
use mathlib.Core.List.{List}
use Prim.Native.Nat.{ℕ, ◌≤◌}
use lib.ListN.{take}
use Rattle.base.proofs.Truths.{both_true}
use Rattle.trace.specs.declared.Mode.TheVariants.{Enforced}
use Rattle.trace.proofs.Laws.{not-both}
use Rattle.limits.specs.declared.Limits.{Limits}
use Rattle.syntax.specs.Nodes.{node_of}
use Rattle.syntax.specs.Shape.{shape_of}
use Rattle.syntax.specs.Formed.{Formed}
use Rattle.reached.specs.Reached.{onward}
use Rattle.reached.specs.Parts.{left, right}
use Rattle.typing.specs.Typed.{SoundSheet}
use Rattle.syntax.specs.declared.Node.TheVariants.{And}
use Rattle.syntax.specs.declared.Sheet.{Sheet}
use Rattle.syntax.specs.declared.NodeType.{NodeType}
use Rattle.compiler.proofs.Passed.{passed}
use Rattle.explaining.specs.Denials.{satisfies_node, LowestViolated}
use Rattle.explaining.specs.Explains.{denied, Explains}
use Rattle.explaining_laws.specs.Answers.{Explainable, DeniedBy}
use Rattle.explaining_laws.specs.Named.{NamedNode}
use Rattle.explaining_laws.proofs.Answers.{denied-exactly}
use Rattle.explaining.proofs.ReachedNodes.{and-satisfied, parts-before, policy-inside, reached-inside, reached-satisfied, reached-mode}

module _ {sheet : Sheet} (formed : Formed sheet) where
  -- The node that is named is satisfied by the permitted actions, and by every front of them.
  pub named-satisfied-before : {list : List ℕ} {place node : ℕ} → DeniedBy sheet list place node
      → (k : ℕ) → k ≤ place → satisfies_node sheet node (take k list) ≡ true
  named-satisfied-before {list} d k h = reached-satisfied formed (policy-inside formed) d.lowest.reached (take k list) (d.first.permitted k h)

  -- It is never an And: an And that is violated has a violated part, and its parts stand before it.
  pub named-no-and : {w : List ℕ} {node : ℕ} → LowestViolated sheet w node → (a b : ℕ) → node_of sheet node ≡ And a b → ⊥
  named-no-and {w} {node} l a b e =
      let is = ap shape_of e in
      let (la, lb) = parts-before formed node a b (reached-inside formed (policy-inside formed) l.reached) is in
      not-both
      (sym (both_true (l.lowest a la (onward l.reached (left is))) (l.lowest b lb (onward l.reached (right is))))
      ∙ sym (and-satisfied sheet node a b is la lb w)
      ∙ l.violated)

-- What the named node of a sound enforced sheet is.
pub named-is : {sheet : Sheet} {types : List NodeType} → SoundSheet Enforced sheet types → {list : List ℕ} {place node : ℕ} → DeniedBy sheet list place node
    → NamedNode sheet types list place node
named-is s d =
    let (bound, e) = reached-mode s d.lowest.reached in
    record {
      inside = reached-inside s.formed (policy-inside s.formed) d.lowest.reached;
      bound = bound;
      enforced = e;
      no-and = named-no-and s.formed d.lowest;
      satisfied-before = named-satisfied-before s.formed d;
      violated = d.lowest.violated;
    }

-- What the node of an answer is.
pub named-node : {bytes list : List ℕ} {limits : Limits} {sheet : Sheet} (can : Explainable bytes list limits sheet)
    → {place node : ℕ} {written : List ℕ} → Explains bytes list limits (denied place node) written
    → NamedNode sheet can.compiled.types list place node
named-node {bytes} can {place} {node} e = named-is (passed bytes can.compiled.judged) ((denied-exactly e can place node).0 refl)
