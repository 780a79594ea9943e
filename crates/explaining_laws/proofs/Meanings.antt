-- The place depends on what the policy says alone: sheets that say the same have the same place, and of two rules together it is the smaller of theirs.
-- Assumes nothing.
use mathlib.Core.Path.{◌≡◌, refl, sym, ◌∙◌, ap, subst}
use mathlib.Core.Bool.{Bool, true, false, ◌&&◌}
use mathlib.Core.List.{List, [], ◌∷◌, ◌++◌}
use Prim.Native.Nat.{ℕ, suc, ◌≤◌, min}
use native.Mathlib.Decide.{dec_le}
use native.Mathlib.Nat.{min-eq_left, min-eq_right}
use native.Mathlib.Omega.{arith}
use lib.ListN.{take}
use lib.Seq.{take-append-le}
use Rattle.base.proofs.Truths.{both_true}
use Rattle.trace.specs.Trace.{Sequence}
use Rattle.trace.specs.declared.Mode.TheVariants.{Enforced}
use Rattle.trace.proofs.Laws.{sequence-append}
use Rattle.limits.specs.declared.Limits.{Limits}
use Rattle.policy.proofs.Congruent.{sequence-take}
use Rattle.syntax.specs.declared.Sheet.{Sheet}
use Rattle.compiler_laws.specs.Demands.{SameSatisfied}
use Rattle.board_policies.specs.Policies.{satisfies_sheet}
use Rattle.explaining.specs.Denials.{NoneDenied, FirstDenied, LowestViolated}
use Rattle.explaining.specs.Explains.{Explanation, denied, CompiledSheet, Explains, first-denied, finds}
use Rattle.explaining_laws.specs.Answers.{Explainable, Outcome, permits, denies, written_for}
use Rattle.explaining_laws.specs.Meanings.{SaysBoth}
use Rattle.explaining_laws.proofs.Places.{none-or-denied, one_place}
use Rattle.explaining_laws.proofs.Answers.{denied-exactly, explained-outcome}
use Rattle.explaining_laws.proofs.Fronts.{first-denied-more}

module _ {sheet other : Sheet} (same : SameSatisfied sheet other) (list : List ℕ) (s : Sequence sheet.actions list) where
  at : (k : ℕ) → satisfies_sheet sheet (take k list) ≡ satisfies_sheet other (take k list)
  at k = same.same (take k list) (sequence-take sheet.actions k list s)

  -- Sheets whose policies the same sequences satisfy deny none of a list together.
  pub same_none : NoneDenied sheet list → NoneDenied other list
  same_none none k h = sym (at k) ∙ none k h

  -- The first denied action of a list is one for both.
  pub same_first : {place : ℕ} → FirstDenied sheet list place → FirstDenied other list place
  same_first {place} d =
      record { inside = d.inside; permitted = λ k h. sym (at k) ∙ d.permitted k h; denied = sym (at (suc place)) ∙ d.denied }

module _ {bytes bytes' list : List ℕ} {limits limits' : Limits} {sheet other : Sheet} (same : SameSatisfied sheet other)
    (can : Explainable bytes list limits sheet) (can' : Explainable bytes' list limits' other) where
  written_same : {x y : Explanation} → Outcome sheet list x → Outcome other list y → written_for x ≡ written_for y
  written_same (permits n) (permits m) = refl
  written_same (permits n) (denies place node d) = none-or-denied (same_none same list can.actions n) d.first
  written_same (denies place node d) (permits n) = none-or-denied n (same_first same list can.actions d.first)
  written_same (denies place node d) (denies place' node' e) = ap (λ (k : ℕ). k ∷ []) (one_place (same_first same list can.actions d.first) e.first)

  -- Two sheets whose policies the same sequences satisfy, each under limits of its own, get the same place for a list, or none of it is denied for
  -- both; the nodes may differ.
  pub same_place : {x y : Explanation} {t u : List ℕ} → Explains bytes list limits x t → Explains bytes' list limits' y u
      → written_for x ≡ written_for y
  same_place e f = written_same (explained-outcome can e) (explained-outcome can' f)

-- Actions behind the first denied one change neither the place nor the node, under any limits that the sheet is inside.
pub explains-more : {bytes list : List ℕ} {limits limits' : Limits} {sheet : Sheet} → Explainable bytes list limits sheet → CompiledSheet bytes limits' Enforced sheet
    → {place node : ℕ} {written : List ℕ} → Explains bytes list limits (denied place node) written
    → (more : List ℕ) → Sequence sheet.actions more → Explains bytes (list ++ more) limits' (denied place node) (place ∷ [])
explains-more {list = list} {sheet = sheet} can inside {place} {node} e more s =
    let d = (denied-exactly e can place node).0 refl in
    finds sheet inside (denied place node) (place ∷ [])
    (first-denied (sequence-append sheet.actions list more can.actions s) place node (first-denied-more sheet list more d.first)
    (subst (λ (w : List ℕ). LowestViolated sheet w node) (sym (take-append-le (suc place) list more d.first.inside)) d.lowest))

-- what two sheets say together does not depend on their order
turned : {sheet one other : Sheet} → SaysBoth sheet one other → SaysBoth sheet other one
turned {one = one} {other} both = record { same = λ w s. both.same w s ∙ swapped (satisfies_sheet one w) (satisfies_sheet other w) }
  where
    swapped : (a b : Bool) → (a && b) ≡ (b && a)
    swapped true true = refl
    swapped true false = refl
    swapped false true = refl
    swapped false false = refl

module _ {sheet one other : Sheet} (both : SaysBoth sheet one other) (list : List ℕ) (s : Sequence sheet.actions list) where
  at_both : (k : ℕ) → satisfies_sheet sheet (take k list) ≡ (satisfies_sheet one (take k list) && satisfies_sheet other (take k list))
  at_both k = both.same (take k list) (sequence-take sheet.actions k list s)

  -- Where neither of two rules denies an action, neither do both together.
  pub none-of-both : NoneDenied one list → NoneDenied other list → NoneDenied sheet list
  none-of-both n m k h = at_both k ∙ both_true (n k h) (m k h)

  -- Where the one denies an action, and the other none before it, it is the first that both together deny.
  pub first-of-one : {place : ℕ} → FirstDenied one list place → ((k : ℕ) → k ≤ place → satisfies_sheet other (take k list) ≡ true) → FirstDenied sheet list place
  first-of-one {place} d ok =
      record {
        inside = d.inside;
        permitted = λ k h. at_both k ∙ both_true (d.permitted k h) (ok k h);
        denied = at_both (suc place) ∙ ap (λ (b : Bool). b && satisfies_sheet other (take (suc place) list)) d.denied;
      }

-- Where each of two rules denies an action, the first that both together deny is at the smaller of the two places.
pub first-of-both : {sheet one other : Sheet} → SaysBoth sheet one other → (list : List ℕ) → Sequence sheet.actions list
    → {place place' : ℕ} → FirstDenied one list place → FirstDenied other list place' → FirstDenied sheet list (min place place')
first-of-both {sheet} both list s {place} {place'} d e =
    elim (dec_le place place') [
      | yes h ↦ subst (FirstDenied sheet list) (sym (min-eq_left h)) (first-of-one both list s d (λ k g. e.permitted k (omega arith)))
      | no h ↦ let g : place' ≤ place = omega arith in
          subst (FirstDenied sheet list) (sym (min-eq_right g)) (first-of-one (turned both) list s e (λ k l. d.permitted k (omega arith)))
    ]
