-- Denials by two sheets with the same used nodes and one action list: the same sequences satisfy each used node, and one node is named.
-- Assumes nothing.
use mathlib.Core.Path.{◌≡◌, sym, ap, subst, ◌∙◌}
use mathlib.Core.List.{List}
use Prim.Native.Nat.{ℕ}
use native.Mathlib.Omega.{arith}
use Rattle.trace.specs.declared.Mode.{Mode}
use Rattle.policy.specs.Policy.{satisfies}
use Rattle.syntax.specs.Nodes.{propositions_of}
use Rattle.syntax.specs.Shape.{with_parts}
use Rattle.syntax.specs.declared.Sheet.{Sheet}
use Rattle.syntax.specs.declared.NodeType.{NodeType}
use Rattle.reached.specs.Reached.{itself, onward}
use Rattle.reached.specs.Parts.{AndPart, left, right, ReachedByAnd, Used}
use Rattle.typing.specs.Typed.{SoundSheet}
use Rattle.renumbering.specs.SameUsed.{SameUsed}
use Rattle.renumbering.proofs.Numbering.{last-to-last, order-back}
use Rattle.renumbering.proofs.Meanings.{policy-alike, sheet-policy-alike}
use Rattle.renumbering.proofs.Equivalence.{same_back, there-again}
use Rattle.compiler_laws.specs.Demands.{SameSatisfied}
use Rattle.explaining.specs.Denials.{policy_node, satisfies_node, LowestViolated}
use Rattle.explaining.proofs.ReachedNodes.{reached-used}

module _ {mode mode' : Mode} {sheet other : Sheet} {types types' : List NodeType} (s : SoundSheet mode sheet types)
    (s' : SoundSheet mode' other types') (same : SameUsed sheet other) where
  -- the parts of an And go to the parts of an And
  part-along : {n m : ℕ} → Used sheet n → AndPart sheet n m → AndPart other (same.to n) (same.to m)
  part-along {n} u (left e) = left (same.nodes n u ∙ ap (with_parts same.to) e)
  part-along {n} u (right e) = right (same.nodes n u ∙ ap (with_parts same.to) e)

  -- What is reached from the one policy through And alone goes to what is reached so from the other.
  pub reached-along : {m : ℕ} → ReachedByAnd sheet (policy_node sheet) m → ReachedByAnd other (policy_node other) (same.to m)
  reached-along itself = subst (ReachedByAnd other (policy_node other)) (sym (last-to-last s.formed s'.formed same)) itself
  reached-along (onward r p) = onward (reached-along r) (part-along (reached-used s r) p)

module _ {mode mode' : Mode} {sheet other : Sheet} {types types' : List NodeType} (s : SoundSheet mode sheet types)
    (s' : SoundSheet mode' other types') (same : SameUsed sheet other) (list : propositions_of sheet ≡ propositions_of other) where
  -- The same sequences satisfy a used node in both sheets.
  pub satisfied-along : (n : ℕ) → Used sheet n → (w : List ℕ) → satisfies_node sheet n w ≡ satisfies_node other (same.to n) w
  satisfied-along n u w = λ i. satisfies (list i) (policy-alike s.formed s'.formed same n u i) w

  -- They satisfy the two policies.
  pub policies-along : SameSatisfied sheet other
  policies-along = record { same = λ w q i. satisfies (list i) (sheet-policy-alike s.formed s'.formed same i) w }

  -- The lowest node that a sequence violates goes to the lowest one.
  pub lowest-along : {w : List ℕ} {node : ℕ} → LowestViolated sheet w node → LowestViolated other w (same.to node)
  lowest-along {w} {node} l = record {
    reached = reached-along s s' same l.reached;
    violated = sym (satisfied-along node (reached-used s l.reached) w) ∙ l.violated;
    lowest = λ m h r.
        let back = same_back s.formed s'.formed same in
        let again = there-again s.formed s'.formed same m (reached-used s' r) in
        let from = reached-along s' s back r in
        let u = reached-used s from in
        let below = order-back s.formed s'.formed same (back.to m) node u (reached-used s l.reached) (omega (arith, again)) in
        ap (λ (k : ℕ). satisfies_node other k w) (sym again)
        ∙ sym (satisfied-along (back.to m) u w)
        ∙ l.lowest (back.to m) below from;
  }
