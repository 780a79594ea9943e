-- The nodes of a policy mean it: with nodes n, n + 1, .. those of a policy, the last of them means the policy. Formulas likewise.
-- Assumes nothing.
use mathlib.Core.Path.{◌≡◌, refl, ap, ◌∙◌}
use mathlib.Core.List.{List, [], ◌∷◌, ◌++◌}
use Prim.Native.Nat.{ℕ, ◌+◌, ◌-◌, ◌≤◌, ◌<◌}
use native.Mathlib.Nat.{zero-add}
use native.Mathlib.Omega.{arith}
use lib.ListN.{length, get_or}
use Rattle.policy.specs.Formula.{Formula, always-true, always-false, proposition, negation, conjunction, disjunction}
use Rattle.policy.specs.Policy.{Policy, now, holds-first, count, not-p, and-p, or-p, eventually, always, before-, before+, after-, after+, fulfilling, ignoring}
use Rattle.syntax.specs.Nodes.{node_of}
use Rattle.syntax.specs.Meaning.{Meaning, formula, policy, meaning_of, meanings, sheet_policy, as_policy}
use Rattle.syntax.specs.declared.Node.{Node}
use Rattle.syntax.specs.declared.Node.TheVariants.{Negation, Conjunction, Disjunction, Now, Holds, Not, And, Or, Eventually, Always, BeforeMinus, BeforePlus, AfterMinus, AfterPlus, Fulfilling, Ignoring}
use Rattle.syntax.specs.declared.Sheet.{Sheet}
use Rattle.typing.proofs.Meanings.{node_meaning, meaning-of, meaning-stays}
use Rattle.grammar.specs.Nodes.{over_one, over_two, over_three, formula_nodes, policy_nodes}
use Rattle.parsed_sheets.proofs.Each.{Each, front, back}
use Rattle.parsed_sheets.specs.Sheets.{sheet_for}
use Rattle.parsed_sheets.proofs.ListedNodes.{nodes-listed}
use Rattle.grammar.proofs.Sizes.{length-one, length_two, length_three, some-formula, some-policy}

module _ (sheet : Sheet) where
  -- The sheet has these nodes, from n on.
  abbrev pub Stand : ℕ → List Node → Type 0
  Stand n l = Each (λ i x. node_of sheet i ≡ x) n l

  abbrev nodes_before : ℕ → List Meaning
  nodes_before m = meanings sheet.nodes m

  -- node i, among the nodes before another, means x
  abbrev Among : List Meaning → ℕ → Meaning → Type 0
  Among before i x = get_or before i (formula always-false) ≡ x

  -- the last of nodes from n on means x
  abbrev LastMeans : ℕ → List Node → Meaning → Type 0
  LastMeans n l x = node_meaning sheet (n + length l - 1) ≡ x

  among : (m i : ℕ) {x : Meaning} → i < m → node_meaning sheet i ≡ x → Among (nodes_before m) i x
  among m i h e = meaning-stays sheet m i h ∙ e

  -- node m is w, the last of nodes from n on
  last : (n m : ℕ) (l : List Node) (w : Node) {x : Meaning} → n + length l - 1 ≡ m → node_of sheet m ≡ w → meaning_of (nodes_before m) w ≡ x → LastMeans n l x
  last n m l w z s e = rw z (meaning-of sheet m ∙ ap (meaning_of (nodes_before m)) s ∙ e)

  leaf : (n : ℕ) (w : Node) {x : Meaning} → Stand n (w ∷ []) → meaning_of (nodes_before n) w ≡ x → LastMeans n (w ∷ []) x
  leaf n w s e = last n n (w ∷ []) w (omega arith) s.0 e

  -- a whole behind its parts: one, two, three of them
  one : (n : ℕ) (a : List Node) (whole : ℕ → Node) {x y : Meaning} → 1 ≤ length a → Stand n (over_one n a whole) → (Stand n a → LastMeans n a x)
      → ((before : List Meaning) (i : ℕ) → Among before i x → meaning_of before (whole i) ≡ y) → LastMeans n (over_one n a whole) y
  one n a whole h s p is =
      let m = n + length a in
      let w = whole (m - 1) in
      last n m (over_one n a whole) w (omega (arith, length-one a w)) (back _ n a (w ∷ []) s).0
      (is (nodes_before m) (m - 1) (among m (m - 1) (omega arith) (p (front _ n a (w ∷ []) s))))

  two : (n : ℕ) (a b : List Node) (whole : ℕ → ℕ → Node) {x y z : Meaning} → 1 ≤ length a → 1 ≤ length b → Stand n (over_two n a b whole)
      → (Stand n a → LastMeans n a x) → (Stand (n + length a) b → LastMeans (n + length a) b y)
      → ((before : List Meaning) (i j : ℕ) → Among before i x → Among before j y → meaning_of before (whole i j) ≡ z) → LastMeans n (over_two n a b whole) z
  two n a b whole h g s p q is =
      let k = n + length a in
      let m = k + length b in
      let w = whole (k - 1) (m - 1) in
      let t = back _ n a (b ++ (w ∷ [])) s in
      last n m (over_two n a b whole) w (omega (arith, length_two a b w)) (back _ k b (w ∷ []) t).0
      (is (nodes_before m) (k - 1) (m - 1) (among m (k - 1) (omega arith) (p (front _ n a _ s))) (among m (m - 1) (omega arith) (q (front _ k b (w ∷ []) t))))

  three : (n : ℕ) (a b c : List Node) (whole : ℕ → ℕ → ℕ → Node) {x y z u : Meaning} → 1 ≤ length a → 1 ≤ length b → 1 ≤ length c
      → Stand n (over_three n a b c whole) → (Stand n a → LastMeans n a x) → (Stand (n + length a) b → LastMeans (n + length a) b y)
      → (Stand (n + length a + length b) c → LastMeans (n + length a + length b) c z)
      → ((before : List Meaning) (i j k : ℕ) → Among before i x → Among before j y → Among before k z → meaning_of before (whole i j k) ≡ u)
      → LastMeans n (over_three n a b c whole) u
  three n a b c whole f g h s p q r is =
      let k = n + length a in
      let l = k + length b in
      let m = l + length c in
      let w = whole (k - 1) (l - 1) (m - 1) in
      let t = back _ n a (b ++ (c ++ (w ∷ []))) s in
      let u = back _ k b (c ++ (w ∷ [])) t in
      last n m (over_three n a b c whole) w (omega (arith, length_three a b c w)) (back _ l c (w ∷ []) u).0
      (is (nodes_before m) (k - 1) (l - 1) (m - 1) (among m (k - 1) (omega arith) (p (front _ n a _ s))) (among m (l - 1) (omega arith) (q (front _ k b _ t)))
      (among m (m - 1) (omega arith) (r (front _ l c (w ∷ []) u))))

  pub formula-means : (n : ℕ) (f : Formula) → Stand n (formula_nodes n f) → LastMeans n (formula_nodes n f) (formula f)
  formula-means n always-true s = leaf n _ s refl
  formula-means n always-false s = leaf n _ s refl
  formula-means n (proposition p) s = leaf n _ s refl
  formula-means n (negation f) s = one n (formula_nodes n f) Negation (some-formula n f) s (formula-means n f) (λ before i p. rw p)
  formula-means n (conjunction f g) s =
      two n (formula_nodes n f) (formula_nodes _ g) Conjunction (some-formula n f) (some-formula _ g) s (formula-means n f) (formula-means (n + length (formula_nodes n f)) g) (λ before i j p q. rw (p, q))
  formula-means n (disjunction f g) s =
      two n (formula_nodes n f) (formula_nodes _ g) Disjunction (some-formula n f) (some-formula _ g) s (formula-means n f) (formula-means (n + length (formula_nodes n f)) g) (λ before i j p q. rw (p, q))

  -- two policies
  pair : (n : ℕ) (a b : Policy) (whole : ℕ → ℕ → Node) {z : Meaning} → Stand n (over_two n (policy_nodes n a) (policy_nodes (n + length (policy_nodes n a)) b) whole)
      → (Stand n (policy_nodes n a) → LastMeans n (policy_nodes n a) (policy a))
      → ((k : ℕ) → Stand k (policy_nodes k b) → LastMeans k (policy_nodes k b) (policy b))
      → ((before : List Meaning) (i j : ℕ) → Among before i (policy a) → Among before j (policy b) → meaning_of before (whole i j) ≡ z)
      → LastMeans n (over_two n (policy_nodes n a) (policy_nodes (n + length (policy_nodes n a)) b) whole) z
  pair n a b whole s p q is = two n (policy_nodes n a) (policy_nodes _ b) whole (some-policy n a) (some-policy _ b) s p (q _) is

  pub policy-means : (n : ℕ) (p : Policy) → Stand n (policy_nodes n p) → LastMeans n (policy_nodes n p) (policy p)
  policy-means n (now f) s = one n (formula_nodes n f) Now (some-formula n f) s (formula-means n f) (λ before i p. rw p)
  policy-means n (holds-first f) s = one n (formula_nodes n f) Holds (some-formula n f) s (formula-means n f) (λ before i p. rw p)
  policy-means n (count k) s = leaf n _ s refl
  policy-means n (not-p a) s = one n (policy_nodes n a) Not (some-policy n a) s (policy-means n a) (λ before i p. rw p)
  policy-means n (and-p a b) s = pair n a b And s (policy-means n a) (λ k. policy-means k b) (λ before i j p q. rw (p, q))
  policy-means n (or-p a b) s = pair n a b Or s (policy-means n a) (λ k. policy-means k b) (λ before i j p q. rw (p, q))
  policy-means n (eventually a) s = one n (policy_nodes n a) Eventually (some-policy n a) s (policy-means n a) (λ before i p. rw p)
  policy-means n (always a) s = one n (policy_nodes n a) Always (some-policy n a) s (policy-means n a) (λ before i p. rw p)
  policy-means n (before- a b) s = pair n a b BeforeMinus s (policy-means n a) (λ k. policy-means k b) (λ before i j p q. rw (p, q))
  policy-means n (before+ a b) s = pair n a b BeforePlus s (policy-means n a) (λ k. policy-means k b) (λ before i j p q. rw (p, q))
  policy-means n (after- a b) s = pair n a b AfterMinus s (policy-means n a) (λ k. policy-means k b) (λ before i j p q. rw (p, q))
  policy-means n (after+ a b) s = pair n a b AfterPlus s (policy-means n a) (λ k. policy-means k b) (λ before i j p q. rw (p, q))
  policy-means n (fulfilling k a b c) s =
      three n (policy_nodes n a) (policy_nodes _ b) (policy_nodes _ c) (Fulfilling k) (some-policy n a) (some-policy _ b) (some-policy _ c) s (policy-means n a)
      (policy-means _ b) (policy-means _ c) (λ before i j l p q r. rw (p, q, r))
  policy-means n (ignoring f b) s =
      two n (formula_nodes n f) (policy_nodes _ b) Ignoring (some-formula n f) (some-policy _ b) s (formula-means n f) (policy-means _ b) (λ before i j p q. rw (p, q))

-- The sheet of a policy means it.
pub text-policy : (actions : List ℕ) (p : Policy) → sheet_policy (sheet_for actions p) ≡ p
text-policy actions p =
    let z : 0 + length (policy_nodes 0 p) ≡ length (policy_nodes 0 p) = zero-add _ in
    ap as_policy (rw z at (policy-means (sheet_for actions p) 0 p (nodes-listed actions p)))
