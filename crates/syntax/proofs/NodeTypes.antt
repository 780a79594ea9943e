-- The type of a node says which of its parts are formulas and which policies.
-- Assumes nothing.
use Rattle.syntax.specs.declared.TypeError.TheVariants.{Unfit}
use Rattle.std.proofs.Common.{None, Err, Ok}
use mathlib.Core.Path.{◌≡◌, refl, sym, ◌∙◌}
use Prim.Native.Nat.{ℕ, ◌<◌}
use Rattle.trace.specs.declared.Mode.{Mode}
use Rattle.trace.specs.declared.Mode.TheVariants.{Watched, Enforced}
use Rattle.policy.specs.declared.Bound.{Bound}
use Rattle.policy.specs.Typing.{typed as Typed, Typing, alike_typed, type_not, type_eventually, type_always, type_before-, type_before+, type_after-, type_after+, type_fulfilling, type_ignoring}
use Rattle.syntax.specs.Formed.{PartsBelow}
use Rattle.syntax.specs.Types.{TypeFound, typing_of, if_formula, found, type_node}
use Rattle.syntax.specs.declared.Node.{Node}
use Rattle.syntax.specs.declared.Node.TheVariants.{True, False, Proposition, Negation, Conjunction, Disjunction, Now, Holds, Count, Not, And, Or, Eventually, Always, BeforeMinus, BeforePlus, AfterMinus, AfterPlus, Fulfilling, Ignoring}
use Rattle.syntax.specs.declared.NodeType.{NodeType}
use Rattle.syntax.specs.declared.NodeType.TheVariants.{Unused, Formula, Policy}

-- F holds of each part that has to be a formula, and P of each that has to be a policy.
abbrev pub EachPart : (F P : ℕ → Type 0) → Node → Type 0
EachPart F P True = Unit {0}
EachPart F P False = Unit {0}
EachPart F P (Proposition p) = Unit {0}
EachPart F P (Negation a) = F a
EachPart F P (Conjunction a b) = F a × F b
EachPart F P (Disjunction a b) = F a × F b
EachPart F P (Now a) = F a
EachPart F P (Holds a) = F a
EachPart F P (Count k) = Unit {0}
EachPart F P (Not a) = P a
EachPart F P (And a b) = P a × P b
EachPart F P (Or a b) = P a × P b
EachPart F P (Eventually a) = P a
EachPart F P (Always a) = P a
EachPart F P (BeforeMinus a b) = P a × P b
EachPart F P (BeforePlus a b) = P a × P b
EachPart F P (AfterMinus a b) = P a × P b
EachPart F P (AfterPlus a b) = P a × P b
EachPart F P (Fulfilling k a b c) = P a × P b × P c
EachPart F P (Ignoring a b) = F a × P b

-- Node i stands before node n and is a formula, or a policy.
pub record FormulaBefore (types : ℕ → NodeType) (n i : ℕ) : Type 0 where
  pub before : i < n
  pub is : types i ≡ Formula

pub record PolicyBefore (types : ℕ → NodeType) (n i : ℕ) : Type 0 where
  pub before : i < n
  pub mode : Mode
  pub bound : Bound
  pub is : types i ≡ Policy mode bound

pub unfit : {A : Type 0} {t : NodeType} → (Err Unfit) ≡ Ok t → A
unfit e = cc

pub from-formula : (s : NodeType) (x : TypeFound) {t : NodeType} → if_formula s x ≡ Ok t → (s ≡ Formula) × (x ≡ Ok t)
from-formula Unused x e = cc
from-formula Formula x e = (refl, e)
from-formula (Policy m k) x e = cc

-- what is found of parts that have to be policies: nothing where one is not
module _ (types : ℕ → NodeType) (n : ℕ) where
  abbrev P : ℕ → Type 0
  P = PolicyBefore types n

  one : (find : Typing → TypeFound) → find None ≡ Err Unfit → (a : ℕ) → a < n → {t : NodeType} → find (typing_of (types a)) ≡ Ok t → P a
  one find strict a h {t} e = by (types a) refl
    where
      by : (s : NodeType) → types a ≡ s → P a
      by Unused p = unfit (sym strict ∙ rw p at e)
      by Formula p = unfit (sym strict ∙ rw p at e)
      by (Policy m k) p = record { before = h; mode = m; bound = k; is = p }

  two : (find : Typing → Typing → TypeFound) → ((s : Typing) → find None s ≡ (Err Unfit)) → ((k : Bound) → find (Typed Watched k) None ≡ (Err Unfit))
      → ((k : Bound) → find (Typed Enforced k) None ≡ (Err Unfit)) → (a b : ℕ) → (a < n) × (b < n) → {t : NodeType}
      → find (typing_of (types a)) (typing_of (types b)) ≡ Ok t → P a × P b
  two find first watched enforced a b h e =
      let p = one (λ s. find s (typing_of (types b))) (first _) a h.0 e in
      (p, one (find (Typed p.mode p.bound)) (second p.mode p.bound) b h.1 (rw p.is at e))
    where
      second : (m : Mode) (k : Bound) → find (Typed m k) None ≡ Err Unfit
      second Watched k = watched k
      second Enforced k = enforced k

  formula : (a : ℕ) → a < n → (x : TypeFound) {t : NodeType} → if_formula (types a) x ≡ Ok t → FormulaBefore types n a × (x ≡ Ok t)
  formula a h x e = let f = from-formula (types a) x e in (record { before = h; is = f.0 }, f.1)

  formulas : (a b : ℕ) → (a < n) × (b < n) → {t : NodeType} → if_formula (types a) (if_formula (types b) (Ok Formula)) ≡ Ok t
      → FormulaBefore types n a × FormulaBefore types n b
  formulas a b h e =
      let f = formula a h.0 (if_formula (types b) (Ok Formula)) e in
      (f.0, (formula b h.1 (Ok Formula) f.1).0)

  -- kind 22: a watched part, and two enforced ones
  three : (k a b c : ℕ) → (a < n) × (b < n) × (c < n) → {t : NodeType} → found (type_fulfilling k (typing_of (types a)) (typing_of (types b)) (typing_of (types c))) ≡ Ok t
      → P a × P b × P c
  three k a b c h {t} e = by (types a) (types b) (types c) refl refl refl
    where
      by : (u v w : NodeType) → types a ≡ u → types b ≡ v → types c ≡ w → P a × P b × P c
      by Unused v w p q r = unfit (rw p at e)
      by Formula v w p q r = unfit (rw p at e)
      by (Policy Enforced i) v w p q r = unfit (rw p at e)
      by (Policy Watched i) Unused w p q r = unfit (rw (p, q) at e)
      by (Policy Watched i) Formula w p q r = unfit (rw (p, q) at e)
      by (Policy Watched i) (Policy Watched j) w p q r = unfit (rw (p, q) at e)
      by (Policy Watched i) (Policy Enforced j) Unused p q r = unfit (rw (p, q, r) at e)
      by (Policy Watched i) (Policy Enforced j) Formula p q r = unfit (rw (p, q, r) at e)
      by (Policy Watched i) (Policy Enforced j) (Policy m l) p q r = (
        record { before = h.0; mode = Watched; bound = i; is = p },
        record { before = h.1; mode = Enforced; bound = j; is = q },
        record { before = h.2; mode = m; bound = l; is = r },
      )

  pub parts-fit : (node : Node) → PartsBelow n node → {t : NodeType} → type_node node types ≡ Ok t → EachPart (FormulaBefore types n) P node
  parts-fit True h e = tt
  parts-fit False h e = tt
  parts-fit (Proposition p) h e = tt
  parts-fit (Negation a) h e = (formula a h (Ok Formula) e).0
  parts-fit (Conjunction a b) h e = formulas a b h e
  parts-fit (Disjunction a b) h e = formulas a b h e
  parts-fit (Now a) h e = (formula a h _ e).0
  parts-fit (Holds a) h e = (formula a h _ e).0
  parts-fit (Count k) h e = tt
  parts-fit (Not a) h e = one (λ s. found (type_not s)) refl a h e
  parts-fit (And a b) h e = two (λ s t. found (alike_typed s t)) (λ s. refl) (λ k. refl) (λ k. refl) a b h e
  parts-fit (Or a b) h e = two (λ s t. found (alike_typed s t)) (λ s. refl) (λ k. refl) (λ k. refl) a b h e
  parts-fit (Eventually a) h e = one (λ s. found (type_eventually s)) refl a h e
  parts-fit (Always a) h e = one (λ s. found (type_always s)) refl a h e
  parts-fit (BeforeMinus a b) h e = two (λ s t. found (type_before- s t)) (λ s. refl) (λ k. refl) (λ k. refl) a b h e
  parts-fit (BeforePlus a b) h e = two (λ s t. found (type_before+ s t)) (λ s. refl) (λ k. refl) (λ k. refl) a b h e
  parts-fit (AfterMinus a b) h e = two (λ s t. found (type_after- s t)) (λ s. refl) (λ k. refl) (λ k. refl) a b h e
  parts-fit (AfterPlus a b) h e = two (λ s t. found (type_after+ s t)) (λ s. refl) (λ k. refl) (λ k. refl) a b h e
  parts-fit (Fulfilling k a b c) h e = three k a b c h e
  parts-fit (Ignoring a b) h e =
      let f = formula a h.0 _ e in (f.0, one (λ s. found (type_ignoring s)) refl b h.1 f.1)
