-- The nodes of a reading have types, of the mode that its category says: kind by kind.
-- Assumes nothing.
use Rattle.std.proofs.Common.{Ok}
use mathlib.Core.Path.{◌≡◌, refl}
use mathlib.Core.List.{List, [], ◌∷◌}
use Prim.Native.Nat.{ℕ, ◌+◌, ◌≤◌}
use native.Mathlib.Omega.{arith}
use borrow.Author.Tests.{le-leb}
use Rattle.policy.specs.Typing.{alike_typed, type_count, type_not, type_eventually, type_always, type_before-, type_before+, type_after-, type_after+, type_fulfilling, type_ignoring}
use Rattle.policy.specs.declared.Bound.TheVariants.{Finite as finite}
use Rattle.syntax.specs.Types.{TypeFound, if_formula, type_node}
use Rattle.syntax.specs.declared.Node.{Node}
use Rattle.syntax.specs.declared.Node.TheVariants.{True, False, Proposition, Negation, Conjunction, Disjunction, Now, Holds, Count, Not, And, Or, Eventually, Always, BeforeMinus, BeforePlus, AfterMinus, AfterPlus, Fulfilling, Ignoring}
use Rattle.syntax.specs.declared.NodeType.{NodeType}
use Rattle.syntax.specs.declared.NodeType.TheVariants.{Formula}
use Rattle.syntax.specs.declared.Sheet.{Sheet}
use Rattle.grammar.specs.Words.{Word}
use Rattle.grammar.specs.Grammar.{Reading, Reads, watch, enforce, now-w, count-w, not-w, and-w, or-w, eventually-w, before-w, after-w, ignoring-w, holds-e, not-e, and-e, or-e, always-e, before-e, after-e, fulfilling-e, ignoring-e, true-a, false-a, proposition-a, not_a, and-a, or-a, number}
use Rattle.grammar.specs.declared.Category.{Category}
use Rattle.parsed_sheets.proofs.Meanings.{Stand}
use Rattle.parsed_sheets.proofs.Bounds.{Found, found-policy, over-one, over-two, over-three, low-more, low-larger, low-plus, low-wait}
use Rattle.parsed_sheets.proofs.Blocks.{NoSpare, Runs, last}
use Rattle.parsed_sheets.proofs.Wholes.{TypedAt, one, two, three}

-- an action formula, and what is over one
a-formula : (x : TypeFound) → x ≡ Ok Formula → Found (λ t. t ≡ Formula) x
a-formula x e = record { type = Formula; fits = e; has = refl }

over-formula : {H : NodeType → Type 0} (t : NodeType) (x : TypeFound) → t ≡ Formula → Found H x → Found H (if_formula t x)
over-formula t x e f = record { type = f.type; fits = rw e f.fits; has = f.has }

module _ (sheet : Sheet) (all : NoSpare sheet) where
  leaf : (n : ℕ) (w : Node) {H : NodeType → Type 0} → ((types : ℕ → NodeType) → Found H (type_node w types)) → Stand sheet n (w ∷ []) → n + 1 ≤ sheet.count
      → Runs sheet n (w ∷ []) H
  leaf n w f s small types t = last sheet all n w (omega arith) s.0 t (f _)

  -- a number has no node
  none : (n : ℕ) → Stand sheet n [] → n + 0 ≤ sheet.count → Runs sheet n [] (λ t. Unit {0})
  none n s small types t =
      let z : n + 0 ≡ n = omega arith in
      record { after = types; typed = rw z t; kept = λ i h. refl; has = tt }

  pub typing : {c : Category} {ws : List Word} {x : Reading c} → Reads c ws x → (n : ℕ) → TypedAt sheet c n x
  typing (watch r) n = typing r n
  typing (enforce r) n = typing r n
  typing (now-w r) n =
      one sheet all n r tt (typing r n) Now (λ e s types i a. over-formula (types i) _ a (found-policy _ (finite 1) refl refl s (omega arith)))
  typing (count-w {k = k} (number low high)) n =
      leaf n (Count k) (λ types. found-policy (type_count k) (finite k) (rw (le-leb 1 k low)) (rw (le-leb 1 k low)) (omega arith) (omega arith))
  typing (not-w r) n = one sheet all n r tt (typing r n) Not (λ e s types i a. over-one type_not a refl refl s (low-more a.bound _ _ (omega arith) a.low))
  typing (and-w r s) n =
      two sheet all n r tt (typing r n) s tt (typing s _) And
      (λ e s types i j a b. over-two alike_typed a b refl refl s (low-larger a.bound b.bound _ _ _ (omega arith) a.low b.low))
  typing (or-w r s) n =
      two sheet all n r tt (typing r n) s tt (typing s _) Or
      (λ e s types i j a b. over-two alike_typed a b refl refl s (low-larger a.bound b.bound _ _ _ (omega arith) a.low b.low))
  typing (eventually-w r) n = one sheet all n r tt (typing r n) Eventually (λ e s types i a. over-one type_eventually a refl refl s tt)
  typing (before-w r s) n =
      two sheet all n r tt (typing r n) s tt (typing s _) BeforeMinus
      (λ e s types i j a b. over-two type_before- a b refl refl s (low-more b.bound _ _ (omega arith) b.low))
  typing (after-w r s) n =
      two sheet all n r tt (typing r n) s tt (typing s _) AfterMinus
      (λ e s types i j a b. over-two type_after- a b refl refl s (low-plus a.bound b.bound _ _ _ (omega arith) a.low b.low))
  typing (ignoring-w r s) n =
      two sheet all n r tt (typing r n) s tt (typing s _) Ignoring
      (λ e s types i j a b. over-formula (types i) _ a (over-one type_ignoring b refl refl s tt))
  typing (holds-e r) n =
      one sheet all n r tt (typing r n) Holds (λ e s types i a. over-formula (types i) _ a (found-policy _ (finite 1) refl refl s (omega arith)))
  typing (not-e r) n = one sheet all n r tt (typing r n) Not (λ e s types i a. over-one type_not a refl refl s (low-more a.bound _ _ (omega arith) a.low))
  typing (and-e r s) n =
      two sheet all n r tt (typing r n) s tt (typing s _) And
      (λ e s types i j a b. over-two alike_typed a b refl refl s (low-larger a.bound b.bound _ _ _ (omega arith) a.low b.low))
  typing (or-e r s) n =
      two sheet all n r tt (typing r n) s tt (typing s _) Or
      (λ e s types i j a b. over-two alike_typed a b refl refl s (low-larger a.bound b.bound _ _ _ (omega arith) a.low b.low))
  typing (always-e r) n = one sheet all n r tt (typing r n) Always (λ e s types i a. over-one type_always a refl refl s tt)
  typing (before-e r s) n =
      two sheet all n r tt (typing r n) s tt (typing s _) BeforePlus
      (λ e s types i j a b. over-two type_before+ a b refl refl s (low-more b.bound _ _ (omega arith) b.low))
  typing (after-e r s) n =
      two sheet all n r tt (typing r n) s tt (typing s _) AfterPlus
      (λ e s types i j a b. over-two type_after+ a b refl refl s (low-plus a.bound b.bound _ _ _ (omega arith) a.low b.low))
  typing (fulfilling-e {k = k} (number low high) r s t) n =
      three sheet all n r tt (typing r n) s tt (typing s _) t tt (typing t _) (Fulfilling k)
      (λ e s types i j l a b c.
      over-three (type_fulfilling k) a b c refl refl s (low-wait k b.bound c.bound _ _ _ (omega arith) high b.low c.low))
  typing (ignoring-e r s) n =
      two sheet all n r tt (typing r n) s tt (typing s _) Ignoring
      (λ e s types i j a b. over-formula (types i) _ a (over-one type_ignoring b refl refl s tt))
  typing true-a n = leaf n True (λ types. a-formula _ refl)
  typing false-a n = leaf n False (λ types. a-formula _ refl)
  typing (proposition-a {p = p} h) n = leaf n (Proposition p) (λ types. a-formula _ refl)
  typing (not_a r) n = one sheet all n r tt (typing r n) Negation (λ e s types i a. over-formula (types i) _ a (a-formula _ refl))
  typing (and-a r s) n =
      two sheet all n r tt (typing r n) s tt (typing s _) Conjunction
      (λ e s types i j a b. over-formula (types i) _ a (over-formula (types j) _ b (a-formula _ refl)))
  typing (or-a r s) n =
      two sheet all n r tt (typing r n) s tt (typing s _) Disjunction
      (λ e s types i j a b. over-formula (types i) _ a (over-formula (types j) _ b (a-formula _ refl)))
  typing (number low high) n = none n
