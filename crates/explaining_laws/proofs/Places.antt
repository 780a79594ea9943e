-- The place of the first denied action and the node that is named are determined; a list of actions has such a place, or none is denied.
-- Assumes nothing.
use mathlib.Core.Path.{◌≡◌, refl, sym, ◌∙◌, ap, subst}
use mathlib.Core.Bool.{Bool, true, false, not}
use mathlib.Core.List.{List, []}
use mathlib.Core.Logic.{◌⊎◌, inl, inr}
use Prim.Native.Nat.{ℕ, zero, suc, ◌≤◌, ◌<◌}
use native.Mathlib.Decide.{dec_lt, dec_le}
use native.Mathlib.Omega.{arith}
use lib.ListN.{length, take}
use Rattle.trace.specs.Trace.{Sequence}
use Rattle.trace.specs.declared.Mode.TheVariants.{Enforced}
use Rattle.trace.proofs.Laws.{not-both}
use Rattle.policy.specs.Typing.{typed as Typed, policy_type}
use Rattle.policy.proofs.Typings.{typed-as}
use Rattle.policy.proofs.Rules.{policy-lasting, enforced-satisfied}
use Rattle.syntax.specs.Nodes.{propositions_of}
use Rattle.syntax.specs.Meaning.{sheet_policy}
use Rattle.typing.specs.Typed.{SoundSheet}
use Rattle.syntax.specs.declared.Sheet.{Sheet}
use Rattle.syntax.specs.declared.NodeType.{NodeType}
use Rattle.typing.proofs.Meanings.{policy-of}
use Rattle.explaining.specs.Denials.{policy_node, satisfies_node, NotAnAction, NoneDenied, FirstDenied, LowestViolated}
use Rattle.explaining.proofs.Walks.{sequence-all}

-- A list of actions has no number that is none.
pub not-outside : {X : Type 0} {actions : ℕ} {list : List ℕ} → Sequence actions list → NotAnAction actions list → X
not-outside {list = list} s n = absurd (omega (arith, sequence-all _ list s n.place 0 n.inside, n.beyond))

module _ {sheet : Sheet} {list : List ℕ} where
  -- Where no action is denied there is no first denied one.
  pub none-or-denied : {X : Type 0} → NoneDenied sheet list → {place : ℕ} → FirstDenied sheet list place → X
  none-or-denied none {place} d = not-both (sym (none (suc place) d.inside) ∙ d.denied)

  earlier : {p q : ℕ} → FirstDenied sheet list p → FirstDenied sheet list q → p < q → ⊥
  earlier d e h = not-both (sym (e.permitted _ h) ∙ d.denied)

  -- The first denied action is one.
  pub one_place : {p q : ℕ} → FirstDenied sheet list p → FirstDenied sheet list q → p ≡ q
  one_place {p} {q} d e =
      elim (dec_lt p q) [ yes h ↦ absurd (earlier d e h) | no h ↦ elim (dec_lt q p) [ yes g ↦ absurd (earlier e d g) | no g ↦ omega arith ] ]

module _ {sheet : Sheet} {w : List ℕ} where
  lower : {n m : ℕ} → LowestViolated sheet w n → LowestViolated sheet w m → n < m → ⊥
  lower {n} a b h = not-both (sym (b.lowest n h a.reached) ∙ a.violated)

  -- The node that is named is one.
  pub one-node : {n m : ℕ} → LowestViolated sheet w n → LowestViolated sheet w m → n ≡ m
  one-node {n} {m} a b =
      elim (dec_lt n m) [ yes h ↦ absurd (lower a b h) | no h ↦ elim (dec_lt m n) [ yes g ↦ absurd (lower b a g) | no g ↦ omega arith ] ]

-- The empty sequence satisfies an enforced policy.
pub begins-satisfied : {sheet : Sheet} {types : List NodeType} → SoundSheet Enforced sheet types → satisfies_node sheet (policy_node sheet) [] ≡ true
begins-satisfied {sheet} {types} s =
    enforced-satisfied (propositions_of sheet) (sheet_policy sheet) s.bound has [] ∙ ap not (policy-lasting (propositions_of sheet) (sheet_policy sheet) (typed-as has)).empty
  where
    has : policy_type (sheet_policy sheet) ≡ Typed Enforced s.bound
    has = policy-of sheet types s (policy_node sheet) (omega (arith, s.formed.some-node)) s.last

module _ {sheet : Sheet} {types : List NodeType} (s : SoundSheet Enforced sheet types) (list : List ℕ) where
  abbrev Satisfied : ℕ → Type 0
  Satisfied k = satisfies_node sheet (policy_node sheet) (take k list) ≡ true

  -- every front up to n satisfies the policy, or there is a first one that does not
  abbrev UpTo : ℕ → Type 0
  UpTo n = ((k : ℕ) → k ≤ n → Satisfied k) ⊎ ((place : ℕ) × FirstDenied sheet list place)

  up_to : (n : ℕ) → n ≤ length list → UpTo n
  up_to zero h = inl (λ k l. subst Satisfied (let e : 0 ≡ k = omega arith in e) (begins-satisfied s))
  up_to (suc n) h = by (up_to n (omega arith)) (satisfies_node sheet (policy_node sheet) (take (suc n) list)) refl
    where
      by : UpTo n → (b : Bool) → satisfies_node sheet (policy_node sheet) (take (suc n) list) ≡ b → UpTo (suc n)
      by (inr d) b e = inr d
      by (inl all) false e = inr (n, record { inside = h; permitted = all; denied = e })
      by (inl all) true e = inl (λ k l. elim (dec_le k n) [ yes g ↦ all k g | no g ↦ subst Satisfied (let q : suc n ≡ k = omega arith in q) e ])

  -- No action of a list is denied by an enforced sheet, or there is a first denied one.
  pub none-or-first : NoneDenied sheet list ⊎ ((place : ℕ) × FirstDenied sheet list place)
  none-or-first = up_to (length list) (omega arith)
