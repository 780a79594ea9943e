-- Sheets with the same used nodes are judged alike: one refusal number at one node, or one mode and the same types.
-- Assumes nothing.
use mathlib.Core.Path.{◌≡◌, refl, sym, ap, subst, ◌∙◌}
use Prim.Native.Nat.{ℕ, ◌-◌}
use Rattle.trace.specs.declared.Mode.{Mode}
use Rattle.syntax.specs.Faults.{number_of, spot_of}
use Rattle.syntax.specs.Formed.{Formed}
use Rattle.syntax.specs.Nodes.{node_of}
use Rattle.syntax.specs.Types.{type_from, type_node}
use Rattle.syntax.specs.declared.Fault.{Fault}
use Rattle.syntax.specs.declared.Fault.TheVariants.{WrongTypeAt, BoundAt}
use Rattle.syntax.specs.declared.NodeType.{NodeType}
use Rattle.syntax.specs.declared.Sheet.{Sheet}
use Rattle.reached.specs.Parts.{Used}
use Rattle.reached.proofs.NodeSets.{used-below}
use Rattle.typing.specs.Typed.{Judgement, sound, judge_sheet}
use Rattle.renumbering.specs.SameUsed.{SameUsed, SameJudgement, both-faulty, both-sound}
use Rattle.renumbering.specs.FirstFault.{TypedBefore, FirstFault, unfit, too_long, no-policy, NoFault}
use Rattle.renumbering.proofs.Numbering.{last-to-last, node-along}
use Rattle.renumbering.proofs.FirstFault.{one-fault, one-typing, one-mode, no-fault}
use Rattle.renumbering.proofs.Judged.{Told, at-fault, no-faults, told}

module _ {sheet other : Sheet} (formed : Formed sheet) (formed' : Formed other) (same : SameUsed sheet other) where
  -- types of the other sheet's nodes, by the numbers of the first
  abbrev along : (ℕ → NodeType) → ℕ → NodeType
  along types n = types (same.to n)

  found-along : (types : ℕ → NodeType) (n : ℕ) → Used sheet n → type_node (node_of sheet n) (along types) ≡ type_node (node_of other (same.to n)) types
  found-along types n u = ap type_from (sym (node-along same types n u))

  before-along : (types : ℕ → NodeType) (n : ℕ) → Used sheet n → TypedBefore other types (same.to n) → TypedBefore sheet (along types) n
  before-along types n v typed i h u = found-along types i u ∙ typed (same.to i) (same.order i n u v h) (same.used i u)

  all-along : (types : ℕ → NodeType) → TypedBefore other types other.count → TypedBefore sheet (along types) sheet.count
  all-along types typed i h u = found-along types i u ∙ typed (same.to i) (used-below other formed' (same.used i u)) (same.used i u)

  last-along : (types : ℕ → NodeType) {t : NodeType} → types (other.count - 1) ≡ t → along types (sheet.count - 1) ≡ t
  last-along types e = ap types (last-to-last formed formed' same) ∙ e

  -- a fault of the other sheet is one of the first
  record FaultAlong (g : Fault) : Type 0 where
    fault : Fault
    first : FirstFault sheet fault
    number : number_of g ≡ number_of fault
    spot : spot_of g ≡ same.to (spot_of fault)

  fault-along : {g : Fault} → FirstFault other g → FaultAlong g
  fault-along (unfit types m u b e) =
      let p = same.onto m u in
      record {
        fault = WrongTypeAt p.0;
        first = unfit (along types) p.0 p.1 (before-along types p.0 p.1 (subst (TypedBefore other types) (sym p.2) b))
            (found-along types p.0 p.1 ∙ ap (λ (i : ℕ). type_node (node_of other i) types) p.2 ∙ e);
        number = refl;
        spot = sym p.2;
      }
  fault-along (too_long types m u b e) =
      let p = same.onto m u in
      record {
        fault = BoundAt p.0;
        first = too_long (along types) p.0 p.1 (before-along types p.0 p.1 (subst (TypedBefore other types) (sym p.2) b))
            (found-along types p.0 p.1 ∙ ap (λ (i : ℕ). type_node (node_of other i) types) p.2 ∙ e);
        number = refl;
        spot = sym p.2;
      }
  fault-along (no-policy types b e) =
      record {
        fault = WrongTypeAt (sheet.count - 1);
        first = no-policy (along types) (all-along types b) (last-along types e);
        number = refl;
        spot = sym (last-to-last formed formed' same);
      }

  typed-along : {mode : Mode} {types : ℕ → NodeType} → NoFault mode other types → NoFault mode sheet (along types)
  typed-along {mode} {types} w = record { each = all-along types w.each; bound = w.bound; last = last-along types w.last }

  alike : {j k : Judgement} → Told sheet j → Told other k → SameJudgement same j k
  alike (at-fault f p) (at-fault g q) =
      let a = fault-along q in
      let e = one-fault sheet formed p a.first in
      both-faulty f g (a.number ∙ ap number_of (sym e)) (a.spot ∙ ap (λ (h : Fault). same.to (spot_of h)) (sym e))
  alike (at-fault f p) (no-faults mode types w) = no-fault sheet formed (typed-along w) p
  alike (no-faults mode types w) (at-fault g q) = no-fault sheet formed w (fault-along q).first
  alike (no-faults mode types w) (no-faults mode' types' w') =
      subst (λ (m : Mode). SameJudgement same (sound mode sheet types) (sound m other types')) (one-mode sheet formed w (typed-along w'))
      (both-sound mode types types' (one-typing sheet formed w.each (typed-along w').each))

  -- Sheets with the same used nodes are judged alike.
  pub judged-alike : SameJudgement same (judge_sheet sheet) (judge_sheet other)
  judged-alike = alike (told sheet formed) (told other formed')
