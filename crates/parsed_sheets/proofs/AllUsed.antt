-- A text leaves no spare node: every node of the sheet of a policy is used. The nodes of a part are reached from its last one, by induction on the
-- policy and the formula.
-- Assumes nothing.
use mathlib.Core.Path.{◌≡◌, refl, sym, subst}
use mathlib.Core.Bool.{true}
use mathlib.Core.Logic.{inl, inr}
use mathlib.Core.List.{List, [], ◌∷◌, ◌++◌}
use Prim.Native.Nat.{ℕ, ◌+◌, ◌-◌, ◌<◌}
use native.Mathlib.Nat.{zero-add}
use native.Mathlib.Omega.{arith}
use lib.ListN.{length}
use Rattle.base.specs.Sets.{bit}
use Rattle.policy.specs.Formula.{Formula, always-true, always-false, proposition, negation, conjunction, disjunction}
use Rattle.policy.specs.Policy.{Policy, now, holds-first, count, not-p, and-p, or-p, eventually, always, before-, before+, after-, after+, fulfilling, ignoring}
use Rattle.syntax.specs.Nodes.{node_of}
use Rattle.syntax.specs.declared.Node.{Node}
use Rattle.syntax.specs.declared.Node.TheVariants.{Negation, Conjunction, Disjunction, Now, Holds, Not, And, Or, Eventually, Always, BeforeMinus, BeforePlus, AfterMinus, AfterPlus, Fulfilling, Ignoring}
use Rattle.syntax.specs.declared.Sheet.{Sheet}
use Rattle.reached.specs.Reached.{Reached, itself, onward}
use Rattle.reached.specs.Parts.{parts_of, InParts, PartOf, Used, used_set}
use Rattle.reached.specs.declared.Parts.{Parts}
use Rattle.reached.specs.declared.Parts.TheVariants.{OnePart, TwoParts, ThreeParts}
use Rattle.reached.proofs.NodeSets.{used-exactly}
use Rattle.grammar.specs.Words.{Word}
use Rattle.grammar.specs.Grammar.{TextRule, Reads}
use Rattle.grammar.specs.Nodes.{over_one, over_two, over_three, formula_nodes, policy_nodes}
use Rattle.grammar.specs.declared.Category.TheVariants.{Text}
use Rattle.grammar.proofs.Sizes.{length-one, length_two, length_three}
use Rattle.parsed_sheets.specs.Sheets.{sheet_for, Small}
use Rattle.parsed_sheets.proofs.Each.{Each, joined, front, back, each_at}
use Rattle.parsed_sheets.proofs.ListedNodes.{nodes-listed}
use Rattle.parsed_sheets.proofs.FormedNodes.{text-formed}
use Rattle.parsed_sheets.proofs.Meanings.{Stand}

module _ (sheet : Sheet) (from : ℕ) where
  abbrev Reach : ℕ → Type 0
  Reach i = Reached (PartOf sheet) from i

  -- where the last of nodes from n on is reached, each of them is
  abbrev Runs : ℕ → List Node → Type 0
  Runs n l = Stand sheet n l → Reach (n + length l - 1) → Each (λ i x. Reach i) n l

  leaf : (n : ℕ) (w : Node) → Runs n (w ∷ [])
  leaf n w s r = let z : n + 1 - 1 ≡ n = omega arith in (subst Reach z r, tt)

  -- the parts of a node that is reached are reached
  part : (m i : ℕ) {w : Node} {parts : Parts} → node_of sheet m ≡ w → parts_of w ≡ parts → Reach m → InParts parts i → Reach i
  part m i {w} {parts} is e r p =
      onward r (subst (λ (x : Node). InParts (parts_of x) i) (sym is) (subst (λ (x : Parts). InParts x i) (sym e) p))

  -- a whole behind its parts: one, two, three of them
  one : (n : ℕ) (a : List Node) (whole : ℕ → Node) → ((i : ℕ) → parts_of (whole i) ≡ OnePart i) → Runs n a → Runs n (over_one n a whole)
  one n a whole parts p s r =
      let m = n + length a in
      let w = whole (m - 1) in
      let z : n + length (over_one n a whole) - 1 ≡ m = omega (arith, length-one a w) in
      let here = subst Reach z r in
      let is = (back _ n a (w ∷ []) s).0 in
      joined _ n a (w ∷ []) (p (front _ n a (w ∷ []) s) (part m (m - 1) is (parts (m - 1)) here refl)) (here, tt)

  two : (n : ℕ) (a b : List Node) (whole : ℕ → ℕ → Node) → ((i j : ℕ) → parts_of (whole i j) ≡ TwoParts i j) → Runs n a → Runs (n + length a) b
      → Runs n (over_two n a b whole)
  two n a b whole parts p q s r =
      let k = n + length a in
      let m = k + length b in
      let w = whole (k - 1) (m - 1) in
      let z : n + length (over_two n a b whole) - 1 ≡ m = omega (arith, length_two a b w) in
      let here = subst Reach z r in
      let t = back _ n a (b ++ (w ∷ [])) s in
      let is = (back _ k b (w ∷ []) t).0 in
      joined _ n a (b ++ (w ∷ [])) (p (front _ n a (b ++ (w ∷ [])) s) (part m (k - 1) is (parts (k - 1) (m - 1)) here (inl refl)))
      (joined _ k b (w ∷ []) (q (front _ k b (w ∷ []) t) (part m (m - 1) is (parts (k - 1) (m - 1)) here (inr refl))) (here, tt))

  three : (n : ℕ) (a b c : List Node) (whole : ℕ → ℕ → ℕ → Node) → ((i j k : ℕ) → parts_of (whole i j k) ≡ ThreeParts i j k)
      → Runs n a → Runs (n + length a) b → Runs (n + length a + length b) c → Runs n (over_three n a b c whole)
  three n a b c whole parts p q o s r =
      let k = n + length a in
      let l = k + length b in
      let m = l + length c in
      let w = whole (k - 1) (l - 1) (m - 1) in
      let z : n + length (over_three n a b c whole) - 1 ≡ m = omega (arith, length_three a b c w) in
      let here = subst Reach z r in
      let t = back _ n a (b ++ (c ++ (w ∷ []))) s in
      let u = back _ k b (c ++ (w ∷ [])) t in
      let is = (back _ l c (w ∷ []) u).0 in
      let e = parts (k - 1) (l - 1) (m - 1) in
      joined _ n a (b ++ (c ++ (w ∷ []))) (p (front _ n a (b ++ (c ++ (w ∷ []))) s) (part m (k - 1) is e here (inl refl)))
      (joined _ k b (c ++ (w ∷ [])) (q (front _ k b (c ++ (w ∷ [])) t) (part m (l - 1) is e here (inr (inl refl))))
      (joined _ l c (w ∷ []) (o (front _ l c (w ∷ []) u) (part m (m - 1) is e here (inr (inr refl)))) (here, tt)))

  formula-used : (n : ℕ) (f : Formula) → Runs n (formula_nodes n f)
  formula-used n always-true = leaf n _
  formula-used n always-false = leaf n _
  formula-used n (proposition p) = leaf n _
  formula-used n (negation f) = one n (formula_nodes n f) Negation (λ i. refl) (formula-used n f)
  formula-used n (conjunction f g) = two n (formula_nodes n f) (formula_nodes _ g) Conjunction (λ i j. refl) (formula-used n f) (formula-used (n + length (formula_nodes n f)) g)
  formula-used n (disjunction f g) = two n (formula_nodes n f) (formula_nodes _ g) Disjunction (λ i j. refl) (formula-used n f) (formula-used (n + length (formula_nodes n f)) g)

  policy-used : (n : ℕ) (p : Policy) → Runs n (policy_nodes n p)
  policy-used n (now f) = one n (formula_nodes n f) Now (λ i. refl) (formula-used n f)
  policy-used n (holds-first f) = one n (formula_nodes n f) Holds (λ i. refl) (formula-used n f)
  policy-used n (count k) = leaf n _
  policy-used n (not-p a) = one n (policy_nodes n a) Not (λ i. refl) (policy-used n a)
  policy-used n (and-p a b) = two n (policy_nodes n a) (policy_nodes _ b) And (λ i j. refl) (policy-used n a) (policy-used (n + length (policy_nodes n a)) b)
  policy-used n (or-p a b) = two n (policy_nodes n a) (policy_nodes _ b) Or (λ i j. refl) (policy-used n a) (policy-used (n + length (policy_nodes n a)) b)
  policy-used n (eventually a) = one n (policy_nodes n a) Eventually (λ i. refl) (policy-used n a)
  policy-used n (always a) = one n (policy_nodes n a) Always (λ i. refl) (policy-used n a)
  policy-used n (before- a b) = two n (policy_nodes n a) (policy_nodes _ b) BeforeMinus (λ i j. refl) (policy-used n a) (policy-used (n + length (policy_nodes n a)) b)
  policy-used n (before+ a b) = two n (policy_nodes n a) (policy_nodes _ b) BeforePlus (λ i j. refl) (policy-used n a) (policy-used (n + length (policy_nodes n a)) b)
  policy-used n (after- a b) = two n (policy_nodes n a) (policy_nodes _ b) AfterMinus (λ i j. refl) (policy-used n a) (policy-used (n + length (policy_nodes n a)) b)
  policy-used n (after+ a b) = two n (policy_nodes n a) (policy_nodes _ b) AfterPlus (λ i j. refl) (policy-used n a) (policy-used (n + length (policy_nodes n a)) b)
  policy-used n (fulfilling k a b c) =
      three n (policy_nodes n a) (policy_nodes _ b) (policy_nodes _ c) (Fulfilling k) (λ i j l. refl) (policy-used n a) (policy-used (n + length (policy_nodes n a)) b) (policy-used (n + length (policy_nodes n a) + length (policy_nodes (n + length (policy_nodes n a)) b)) c)
  policy-used n (ignoring f b) = two n (formula_nodes n f) (policy_nodes _ b) Ignoring (λ i j. refl) (formula-used n f) (policy-used (n + length (formula_nodes n f)) b)

-- Every node of the sheet of a policy is used.
pub text-all-used : (actions : List ℕ) (p : Policy) (n : ℕ) → n < (sheet_for actions p).count → Used (sheet_for actions p) n
text-all-used actions p n h =
    let last : ℕ = (sheet_for actions p).count - 1 in
    let z : 0 + length (policy_nodes 0 p) - 1 ≡ last = omega (arith, zero-add (length (policy_nodes 0 p))) in
    let all = policy-used (sheet_for actions p) last 0 p (nodes-listed actions p) (subst (Reach (sheet_for actions p) last) (sym z) itself) in
    subst (Reach (sheet_for actions p) last) (zero-add n) (each_at (λ i x. Reach (sheet_for actions p) last i) 0 (policy_nodes 0 p) all n h)

-- So each is in the set of the used nodes. (The set does not look at the actions, and one action makes the sheet a formed one.)
pub text_in-use : (actions : List ℕ) {ws : List Word} {rule : TextRule} → Reads Text ws rule → Small rule.policy → (n : ℕ)
    → n < (sheet_for actions rule.policy).count → bit (used_set (sheet_for actions rule.policy)) n ≡ true
text_in-use actions {rule = rule} reads small n h =
    let one : List ℕ = 0 ∷ [] in
    (used-exactly (sheet_for one rule.policy) (text-formed one reads small (record { some = omega arith; few = omega arith })) n).1 (text-all-used one rule.policy n h)
