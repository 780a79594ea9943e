-- A node whose parts' meanings agree with their types has a meaning that agrees with its own.
-- Assumes nothing.
use Rattle.syntax.specs.declared.TypeError.TheVariants.{TooLong}
use Rattle.std.proofs.Common.{None, Err, Ok}
use mathlib.Core.Path.{◌≡◌, refl, subst}
use mathlib.Core.Bool.{Bool, true, false, cond}
use mathlib.Core.List.{List}
use Prim.Native.Nat.{ℕ}
use Rattle.trace.specs.declared.Mode.{Mode}
use Rattle.policy.specs.declared.Bound.{Bound}
use Rattle.policy.specs.Formula.{Formula as ActionFormula}
use Rattle.policy.specs.Policy.{Policy as APolicy, now, holds-first, count, not-p, and-p, or-p, eventually, always, before-, before+, after-, after+, fulfilling, ignoring}
use Rattle.policy.specs.Typing.{typed as Typed, Typing, alike_typed, type_now, type_holds, type_count, type_not, type_eventually, type_always, type_before-, type_before+, type_after-, type_after+, type_fulfilling, type_ignoring, policy_type}
use Rattle.syntax.specs.Types.{TypeFound, typing_of, bound_fits, found, type_node}
use Rattle.syntax.specs.Meaning.{Meaning, formula, policy, as_policy, formula_at, policy_at, meaning_of}
use Rattle.typing.specs.Typed.{Agrees}
use Rattle.syntax.specs.declared.Node.{Node}
use Rattle.syntax.specs.declared.Node.TheVariants.{True, False, Proposition, Negation, Conjunction, Disjunction, Now, Holds, Count, Not, And, Or, Eventually, Always, BeforeMinus, BeforePlus, AfterMinus, AfterPlus, Fulfilling, Ignoring}
use Rattle.syntax.specs.declared.NodeType.{NodeType}
use Rattle.syntax.specs.declared.NodeType.TheVariants.{Unused, Formula, Policy}
use Rattle.syntax.proofs.NodeTypes.{EachPart, FormulaBefore, PolicyBefore, from-formula}

formula-agrees : (f : ActionFormula) (t : NodeType) → ◌≡◌ {A = TypeFound} (Ok Formula) (Ok t) → Agrees t (formula f)
formula-agrees f Unused e = cc
formula-agrees f Formula e = tt
formula-agrees f (Policy m k) e = cc

-- a policy of the typing that is found
policy-agrees : (p : APolicy) (s : Typing) (t : NodeType) → policy_type p ≡ s → found s ≡ Ok t → Agrees t (policy p)
policy-agrees p (Typed m k) t q e = by (bound_fits k) e
  where
    by : (fit : Bool) → cond fit (Ok (Policy m k)) (Err TooLong) ≡ Ok t → Agrees t (policy p)
    by true e = let same : Policy m k ≡ t = cc in subst (λ (x : NodeType). Agrees x (policy p)) same q
    by false e = cc
policy-agrees p None t q e = cc

pub agrees-typed : (t : NodeType) (x : Meaning) → Agrees t x → {m : Mode} {k : Bound} → t ≡ Policy m k → policy_type (as_policy x) ≡ typing_of t
agrees-typed Unused x a e = absurd a
agrees-typed Formula x a e = cc
agrees-typed (Policy m k) (formula f) a e = absurd a
agrees-typed (Policy m k) (policy p) a e = a

module _ (types : ℕ → NodeType) (before : List Meaning) (n : ℕ)
    (means : (i : ℕ) → PolicyBefore types n i → policy_type (policy_at before i) ≡ typing_of (types i)) where
  abbrev s : ℕ → Typing
  s i = typing_of (types i)

  abbrev p : ℕ → APolicy
  p i = policy_at before i

  pub agree-node : (node : Node) → EachPart (FormulaBefore types n) (PolicyBefore types n) node → (t : NodeType) → type_node node types ≡ Ok t
      → Agrees t (meaning_of before node)
  agree-node True h t e = formula-agrees _ t e
  agree-node False h t e = formula-agrees _ t e
  agree-node (Proposition k) h t e = formula-agrees _ t e
  agree-node (Negation a) h t e = formula-agrees _ t (from-formula (types a) _ e).1
  agree-node (Conjunction a b) h t e = formula-agrees _ t (from-formula (types b) _ (from-formula (types a) _ e).1).1
  agree-node (Disjunction a b) h t e = formula-agrees _ t (from-formula (types b) _ (from-formula (types a) _ e).1).1
  agree-node (Now a) h t e = policy-agrees (now (formula_at before a)) type_now t refl (from-formula (types a) _ e).1
  agree-node (Holds a) h t e = policy-agrees (holds-first (formula_at before a)) type_holds t refl (from-formula (types a) _ e).1
  agree-node (Count k) h t e = policy-agrees (count k) (type_count k) t refl e
  agree-node (Not a) h t e = policy-agrees (not-p (p a)) (type_not (s a)) t (rw (means a h)) e
  agree-node (And a b) h t e = policy-agrees (and-p (p a) (p b)) (alike_typed (s a) (s b)) t (rw (means a h.0, means b h.1)) e
  agree-node (Or a b) h t e = policy-agrees (or-p (p a) (p b)) (alike_typed (s a) (s b)) t (rw (means a h.0, means b h.1)) e
  agree-node (Eventually a) h t e = policy-agrees (eventually (p a)) (type_eventually (s a)) t (rw (means a h)) e
  agree-node (Always a) h t e = policy-agrees (always (p a)) (type_always (s a)) t (rw (means a h)) e
  agree-node (BeforeMinus a b) h t e = policy-agrees (before- (p a) (p b)) (type_before- (s a) (s b)) t (rw (means a h.0, means b h.1)) e
  agree-node (BeforePlus a b) h t e = policy-agrees (before+ (p a) (p b)) (type_before+ (s a) (s b)) t (rw (means a h.0, means b h.1)) e
  agree-node (AfterMinus a b) h t e = policy-agrees (after- (p a) (p b)) (type_after- (s a) (s b)) t (rw (means a h.0, means b h.1)) e
  agree-node (AfterPlus a b) h t e = policy-agrees (after+ (p a) (p b)) (type_after+ (s a) (s b)) t (rw (means a h.0, means b h.1)) e
  agree-node (Fulfilling k a b c) h t e =
      policy-agrees (fulfilling k (p a) (p b) (p c)) (type_fulfilling k (s a) (s b) (s c)) t (rw (means a h.0, means b h.1, means c h.2)) e
  agree-node (Ignoring a b) h t e =
      policy-agrees (ignoring (formula_at before a) (p b)) (type_ignoring (s b)) t (rw (means b h.1)) (from-formula (types a) _ e).1
