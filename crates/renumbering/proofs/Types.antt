-- The types of used nodes: what fits has a type, and a sheet has one choice of types.
-- Assumes nothing.
use Rattle.syntax.specs.declared.TypeError.TheVariants.{TooLong}
use Rattle.std.proofs.Common.{None, Err, Ok}
use mathlib.Core.Path.{◌≡◌, ap}
use mathlib.Core.Bool.{Bool, true, false, cond}
use Prim.Native.Nat.{ℕ, zero, suc, ◌≤◌, ◌<◌}
use native.Mathlib.Nat.{lt-suc_self}
use native.Mathlib.Omega.{arith}
use Rattle.policy.specs.Typing.{typed as Typed, Typing, alike_typed, type_now, type_holds, type_count, type_not, type_eventually, type_always, type_before-, type_before+, type_after-, type_after+, type_fulfilling, type_ignoring}
use Rattle.syntax.specs.Formed.{Formed}
use Rattle.syntax.specs.Nodes.{node_of}
use Rattle.syntax.specs.Types.{TypeFound, typing_of, bound_fits, found, type_from, type_node}
use Rattle.syntax.specs.declared.Node.{Node}
use Rattle.syntax.specs.declared.Node.TheVariants.{True, False, Proposition, Negation, Conjunction, Disjunction, Now, Holds, Count, Not, And, Or, Eventually, Always, BeforeMinus, BeforePlus, AfterMinus, AfterPlus, Fulfilling, Ignoring}
use Rattle.syntax.specs.declared.NodeType.{NodeType}
use Rattle.syntax.specs.declared.NodeType.TheVariants.{Unused, Formula, Policy}
use Rattle.syntax.specs.declared.Sheet.{Sheet}
use Rattle.syntax.proofs.NodeTypes.{unfit, from-formula}
use Rattle.reached.specs.Parts.{Used}
use Rattle.reached.proofs.NodeParts.{over_equal}
use Rattle.renumbering.specs.FirstFault.{TypedBefore}
use Rattle.renumbering.proofs.Numbering.{part-used}

-- what fits has a type
formula-typed : ◌≡◌ {A = TypeFound} (Ok Formula) (Ok Unused) → ⊥
formula-typed e = cc

found-typed : (s : Typing) → found s ≡ Ok Unused → ⊥
found-typed (Typed m k) e = by (bound_fits k) e
  where
    by : (fit : Bool) → cond fit (Ok (Policy m k)) (Err TooLong) ≡ Ok Unused → ⊥
    by true e = cc
    by false e = cc
found-typed None e = unfit e

module _ (types : ℕ → NodeType) where
  abbrev s : ℕ → Typing
  s i = typing_of (types i)

  pub fits-typed : (node : Node) → type_node node types ≡ Ok Unused → ⊥
  fits-typed True e = cc
  fits-typed False e = cc
  fits-typed (Proposition p) e = cc
  fits-typed (Negation a) e = formula-typed (from-formula (types a) _ e).1
  fits-typed (Conjunction a b) e = formula-typed (from-formula (types b) _ (from-formula (types a) _ e).1).1
  fits-typed (Disjunction a b) e = formula-typed (from-formula (types b) _ (from-formula (types a) _ e).1).1
  fits-typed (Now a) e = found-typed type_now (from-formula (types a) _ e).1
  fits-typed (Holds a) e = found-typed type_holds (from-formula (types a) _ e).1
  fits-typed (Count k) e = found-typed (type_count k) e
  fits-typed (Not a) e = found-typed (type_not (s a)) e
  fits-typed (And a b) e = found-typed (alike_typed (s a) (s b)) e
  fits-typed (Or a b) e = found-typed (alike_typed (s a) (s b)) e
  fits-typed (Eventually a) e = found-typed (type_eventually (s a)) e
  fits-typed (Always a) e = found-typed (type_always (s a)) e
  fits-typed (BeforeMinus a b) e = found-typed (type_before- (s a) (s b)) e
  fits-typed (BeforePlus a b) e = found-typed (type_before+ (s a) (s b)) e
  fits-typed (AfterMinus a b) e = found-typed (type_after- (s a) (s b)) e
  fits-typed (AfterPlus a b) e = found-typed (type_after+ (s a) (s b)) e
  fits-typed (Fulfilling k a b c) e = found-typed (type_fulfilling k (s a) (s b) (s c)) e
  fits-typed (Ignoring a b) e = found-typed (type_ignoring (s b)) (from-formula (types a) _ e).1

-- Types of the used nodes before n and before m agree before both: there is one choice.
module _ (sheet : Sheet) (formed : Formed sheet) {f g : ℕ → NodeType} {n m : ℕ} (typed : TypedBefore sheet f n) (typed' : TypedBefore sheet g m) where
  agree-below : (k i : ℕ) → i < k → i < n → i < m → Used sheet i → f i ≡ g i
  agree-below zero i h p q u = absurd (omega arith)
  agree-below (suc k) i h p q u =
      let e = ap type_from (over_equal f g (node_of sheet i)
      (λ j part. let b = part-used sheet formed u part in agree-below k j (omega (arith, b.1)) (omega (arith, b.1)) (omega (arith, b.1)) b.0)) in
      cc (typed i p u, typed' i q u)

  pub types-agree : (i : ℕ) → i < n → i < m → Used sheet i → f i ≡ g i
  types-agree i = agree-below (suc i) i (lt-suc_self i)

  -- and so does what is found of the next one
  pub found-agree : (i : ℕ) → i ≤ n → i ≤ m → Used sheet i → type_node (node_of sheet i) f ≡ type_node (node_of sheet i) g
  found-agree i p q u =
      ap type_from (over_equal f g (node_of sheet i)
      (λ j part. let b = part-used sheet formed u part in types-agree j (omega (arith, b.1)) (omega (arith, b.1)) b.0))
