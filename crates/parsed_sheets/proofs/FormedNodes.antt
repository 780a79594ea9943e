-- Each node of a reading is formed: its parts have numbers below its own, and its argument is in its range. So the sheet of a text is formed.
-- Assumes nothing.
use mathlib.Core.Path.{subst}
use mathlib.Core.List.{List, [], ◌∷◌}
use Prim.Native.Nat.{ℕ, ◌+◌, ◌-◌, ◌<◌}
use native.Mathlib.Nat.{zero-add}
use native.Mathlib.Omega.{arith}
use lib.ListN.{length, get_or}
use Rattle.syntax.specs.Nodes.{node_of}
use Rattle.syntax.specs.Formed.{PartsBelow, ArgumentFits, Formed}
use Rattle.syntax.specs.declared.Node.{Node}
use Rattle.syntax.specs.declared.Node.TheVariants.{True, Negation, Conjunction, Disjunction, Now, Holds, Not, And, Or, Eventually, Always, BeforeMinus, BeforePlus, AfterMinus, AfterPlus, Fulfilling, Ignoring}
use Rattle.sheet_writer.specs.Sheets.{SomeActions}
use Rattle.sheet_writer.proofs.Lists.{sheet-nodes}
use Rattle.grammar.specs.Words.{Word}
use Rattle.grammar.specs.Grammar.{TextRule, Reading, Reads, watch, enforce, now-w, count-w, not-w, and-w, or-w, eventually-w, before-w, after-w, ignoring-w, holds-e, not-e, and-e, or-e, always-e, before-e, after-e, fulfilling-e, ignoring-e, true-a, false-a, proposition-a, not_a, and-a, or-a, number}
use Rattle.grammar.specs.Nodes.{over_one, over_two, over_three, policy_nodes, nodes_of}
use Rattle.grammar.specs.declared.Category.{Category}
use Rattle.grammar.specs.declared.Category.TheVariants.{Text}
use Rattle.parsed_sheets.specs.Sheets.{sheet_for, Small}
use Rattle.parsed_sheets.proofs.Each.{Each, joined, each_at}
use Rattle.grammar.proofs.Sizes.{HasNodes, some-node, some-policy}

-- What check 5 asks of node n.
abbrev pub Fitting : ℕ → Node → Type 0
Fitting n x = PartsBelow n x × ArgumentFits x

-- the nodes of a reading, from n on
abbrev AllFit : (c : Category) → ℕ → Reading c → Type 0
AllFit c n x = Each Fitting n (nodes_of c n x)

-- a whole behind its parts, which are readings: one, two, three of them
module _ (n : ℕ) {c : Category} {us : List Word} {x : Reading c} (r : Reads c us x) (h : HasNodes c) (p : AllFit c n x) where
  abbrev n₁ : ℕ
  n₁ = n + length (nodes_of c n x)

  one : (whole : ℕ → Node) → ((i m : ℕ) → i < m → Fitting m (whole i)) → Each Fitting n (over_one n (nodes_of c n x) whole)
  one whole fits =
      let s = some-node c h n x in
      joined Fitting n (nodes_of c n x) (whole (n₁ - 1) ∷ []) p (fits (n₁ - 1) n₁ (omega arith), tt)

  module _ {d : Category} {vs : List Word} {y : Reading d} (r₁ : Reads d vs y) (h₁ : HasNodes d) (p₁ : AllFit d n₁ y) where
    abbrev n₂ : ℕ
    n₂ = n₁ + length (nodes_of d n₁ y)

    two : (whole : ℕ → ℕ → Node) → ((i j m : ℕ) → i < m → j < m → Fitting m (whole i j))
        → Each Fitting n (over_two n (nodes_of c n x) (nodes_of d n₁ y) whole)
    two whole fits =
        let s = some-node c h n x in
        let t = some-node d h₁ n₁ y in
        let w = whole (n₁ - 1) (n₂ - 1) in
        joined Fitting n (nodes_of c n x) _ p (joined Fitting n₁ (nodes_of d n₁ y) (w ∷ []) p₁ (fits (n₁ - 1) (n₂ - 1) n₂ (omega arith) (omega arith), tt))

    module _ {e : Category} {ws : List Word} {z : Reading e} (r₂ : Reads e ws z) (h₂ : HasNodes e) (p₂ : AllFit e n₂ z) where
      abbrev n₃ : ℕ
      n₃ = n₂ + length (nodes_of e n₂ z)

      three : (whole : ℕ → ℕ → ℕ → Node) → ((i j k m : ℕ) → i < m → j < m → k < m → Fitting m (whole i j k))
          → Each Fitting n (over_three n (nodes_of c n x) (nodes_of d n₁ y) (nodes_of e n₂ z) whole)
      three whole fits =
          let s = some-node c h n x in
          let t = some-node d h₁ n₁ y in
          let u = some-node e h₂ n₂ z in
          let w = whole (n₁ - 1) (n₂ - 1) (n₃ - 1) in
          joined Fitting n (nodes_of c n x) _ p
          (joined Fitting n₁ (nodes_of d n₁ y) _ p₁
          (joined Fitting n₂ (nodes_of e n₂ z) (w ∷ []) p₂ (fits (n₁ - 1) (n₂ - 1) (n₃ - 1) n₃ (omega arith) (omega arith) (omega arith), tt)))

pub formed-nodes : {c : Category} {ws : List Word} {x : Reading c} → Reads c ws x → (n : ℕ) → Each Fitting n (nodes_of c n x)
formed-nodes (watch r) n = formed-nodes r n
formed-nodes (enforce r) n = formed-nodes r n
formed-nodes (now-w r) n = one n r tt (formed-nodes r n) Now (λ i m h. (h, tt))
formed-nodes (count-w (number low high)) n = ((tt, (low, high)), tt)
formed-nodes (not-w r) n = one n r tt (formed-nodes r n) Not (λ i m h. (h, tt))
formed-nodes (and-w r s) n = two n r tt (formed-nodes r n) s tt (formed-nodes s _) And (λ i j m g h. ((g, h), tt))
formed-nodes (or-w r s) n = two n r tt (formed-nodes r n) s tt (formed-nodes s _) Or (λ i j m g h. ((g, h), tt))
formed-nodes (eventually-w r) n = one n r tt (formed-nodes r n) Eventually (λ i m h. (h, tt))
formed-nodes (before-w r s) n = two n r tt (formed-nodes r n) s tt (formed-nodes s _) BeforeMinus (λ i j m g h. ((g, h), tt))
formed-nodes (after-w r s) n = two n r tt (formed-nodes r n) s tt (formed-nodes s _) AfterMinus (λ i j m g h. ((g, h), tt))
formed-nodes (ignoring-w r s) n = two n r tt (formed-nodes r n) s tt (formed-nodes s _) Ignoring (λ i j m g h. ((g, h), tt))
formed-nodes (holds-e r) n = one n r tt (formed-nodes r n) Holds (λ i m h. (h, tt))
formed-nodes (not-e r) n = one n r tt (formed-nodes r n) Not (λ i m h. (h, tt))
formed-nodes (and-e r s) n = two n r tt (formed-nodes r n) s tt (formed-nodes s _) And (λ i j m g h. ((g, h), tt))
formed-nodes (or-e r s) n = two n r tt (formed-nodes r n) s tt (formed-nodes s _) Or (λ i j m g h. ((g, h), tt))
formed-nodes (always-e r) n = one n r tt (formed-nodes r n) Always (λ i m h. (h, tt))
formed-nodes (before-e r s) n = two n r tt (formed-nodes r n) s tt (formed-nodes s _) BeforePlus (λ i j m g h. ((g, h), tt))
formed-nodes (after-e r s) n = two n r tt (formed-nodes r n) s tt (formed-nodes s _) AfterPlus (λ i j m g h. ((g, h), tt))
formed-nodes (fulfilling-e {k = k} (number low high) r s t) n =
    three n r tt (formed-nodes r n) s tt (formed-nodes s _) t tt (formed-nodes t _) (Fulfilling k) (λ i j l m f g h. ((f, g, h), (low, high)))
formed-nodes (ignoring-e r s) n = two n r tt (formed-nodes r n) s tt (formed-nodes s _) Ignoring (λ i j m g h. ((g, h), tt))
formed-nodes true-a n = ((tt, tt), tt)
formed-nodes false-a n = ((tt, tt), tt)
formed-nodes (proposition-a h) n = ((tt, h), tt)
formed-nodes (not_a r) n = one n r tt (formed-nodes r n) Negation (λ i m h. (h, tt))
formed-nodes (and-a r s) n = two n r tt (formed-nodes r n) s tt (formed-nodes s _) Conjunction (λ i j m g h. ((g, h), tt))
formed-nodes (or-a r s) n = two n r tt (formed-nodes r n) s tt (formed-nodes s _) Disjunction (λ i j m g h. ((g, h), tt))
formed-nodes (number low high) n = tt

module _ (actions : List ℕ) {ws : List Word} {rule : TextRule} (reads : Reads Text ws rule) (small : Small rule.policy) where
  fitting : (n : ℕ) → n < length (policy_nodes 0 rule.policy) → Fitting n (node_of (sheet_for actions rule.policy) n)
  fitting n h =
      rw (sheet-nodes actions (policy_nodes 0 rule.policy) n)
      (subst (λ (i : ℕ). Fitting i (get_or (policy_nodes 0 rule.policy) n True)) (zero-add n) (each_at Fitting 0 (policy_nodes 0 rule.policy) (formed-nodes reads 0) n h))

  -- The sheet of a text passes checks 2 and 5.
  pub text-formed : SomeActions actions → Formed (sheet_for actions rule.policy)
  text-formed listed =
      record {
        some-action = listed.some;
        few-actions = listed.few;
        some-node = some-policy 0 rule.policy;
        few-nodes = small;
        parts = λ n h. (fitting n h).0;
        arguments = λ n h. (fitting n h).1;
      }
