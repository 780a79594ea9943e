-- Having the same used nodes is an equivalence of formed sheets.
-- Assumes nothing.
use mathlib.Core.Path.{◌≡◌, refl, sym, ap, ◌∙◌}
use mathlib.Core.Bool.{Bool, true, false}
use Prim.Native.Nat.{ℕ}
use native.Mathlib.Omega.{arith}
use Rattle.base.specs.Sets.{bit}
use Rattle.base.proofs.Truths.{not-true}
use Rattle.syntax.specs.Formed.{Formed}
use Rattle.syntax.specs.Nodes.{node_of}
use Rattle.syntax.specs.Shape.{shape_of, with_parts}
use Rattle.syntax.specs.declared.Sheet.{Sheet}
use Rattle.syntax.proofs.EqualParts.{with-parts-same}
use Rattle.reached.specs.Parts.{Used, used_set}
use Rattle.reached.proofs.NodeParts.{over_equal}
use Rattle.reached.proofs.NodeSets.{used-exactly}
use Rattle.renumbering.specs.SameUsed.{SameUsed}
use Rattle.renumbering.proofs.Numbering.{part-used, order-back, one_number, node-along}

-- A sheet has the used nodes of itself.
pub same-itself : (sheet : Sheet) → SameUsed sheet sheet
same-itself sheet = record {
  to = λ n. n;
  used = λ n u. u;
  onto = λ m u. (m, u, refl);
  order = λ n m u v h. h;
  nodes = λ n u. sym (with-parts-same (shape_of (node_of sheet n)));
}

-- Where a second sheet has the used nodes of the first, and a third those of the second, it has those of the first.
pub same-onward : {first second third : Sheet} → SameUsed first second → SameUsed second third → SameUsed first third
same-onward {first} {second} {third} s t = record {
  to = λ n. t.to (s.to n);
  used = λ n u. t.used (s.to n) (s.used n u);
  onto = onto;
  order = λ n m u v h. t.order (s.to n) (s.to m) (s.used n u) (s.used m v) (s.order n m u v h);
  nodes = λ n u.
      t.nodes (s.to n) (s.used n u) ∙ node-along s t.to n u;
}
  where
    onto : (m : ℕ) → Used third m → (n : ℕ) × Used first n × (t.to (s.to n) ≡ m)
    onto m u = let p = t.onto m u in let q = s.onto p.0 p.1 in (q.0, q.1, ap t.to q.2 ∙ p.2)

-- A sheet has the used nodes of one that has its own.
module _ {sheet other : Sheet} (formed : Formed sheet) (formed' : Formed other) (same : SameUsed sheet other) where
  -- the number in the first sheet of each used node of the other
  back : (m : ℕ) → (n : ℕ) × (Used other m → Used sheet n × (same.to n ≡ m))
  back m = by (bit (used_set other) m) refl
    where
      by : (b : Bool) → bit (used_set other) m ≡ b → (n : ℕ) × (Used other m → Used sheet n × (same.to n ≡ m))
      by true e = let p = same.onto m ((used-exactly other formed' m).0 e) in (p.0, λ u. (p.1, p.2))
      by false e = (0, λ u. not-true (sym e ∙ (used-exactly other formed' m).1 u))

  back_to : (n : ℕ) → Used sheet n → (back (same.to n)).0 ≡ n
  back_to n u = let b = (back (same.to n)).1 (same.used n u) in one_number formed formed' same (back (same.to n)).0 n b.0 u b.1

  pub same_back : SameUsed other sheet
  same_back = record {
    to = λ m. (back m).0;
    used = λ m u. ((back m).1 u).0;
    onto = λ n u. (same.to n, same.used n u, back_to n u);
    order = λ m k u v h.
        let b = (back m).1 u in
        let c = (back k).1 v in
        order-back formed formed' same (back m).0 (back k).0 b.0 c.0 (omega (arith, b.1, c.1));
    nodes = nodes;
  }
    where
      nodes : (m : ℕ) → Used other m → shape_of (node_of sheet (back m).0) ≡ with_parts (λ k. (back k).0) (shape_of (node_of other m))
      nodes m u =
          let b = (back m).1 u in
          sym (ap (λ (k : ℕ). with_parts (λ k. (back k).0) (shape_of (node_of other k))) (sym b.1)
          ∙ node-along same (λ k. (back k).0) (back m).0 b.0
          ∙ over_equal (λ k. (back (same.to k)).0) (λ k. k) (node_of sheet (back m).0) (λ i p. back_to i (part-used sheet formed b.0 p).0)
          ∙ with-parts-same (shape_of (node_of sheet (back m).0)))

  -- A used node of the other sheet that goes back comes to its own number again.
  pub there-again : (m : ℕ) → Used other m → same.to (same_back.to m) ≡ m
  unfolding same_back
  there-again m u = ((back m).1 u).1
