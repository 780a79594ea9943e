-- The sheet of a text: behind as many words as stand before a node's word, the text goes on with the words of the node's part.
-- Assumes nothing.
use Rattle.std.proofs.Common.{Ok}
use mathlib.Core.Path.{◌≡◌, refl, sym, ap, subst, ◌∙◌}
use mathlib.Core.List.{List, [], ◌∷◌, ◌++◌, append-nil}
use Prim.Native.Nat.{ℕ, suc, ◌+◌, ◌-◌, ◌≤◌, ◌<◌}
use native.Mathlib.Nat.{zero-add}
use native.Mathlib.Omega.{arith}
use lib.ListN.{length, drop}
use Rattle.trace.specs.declared.Mode.{Mode}
use Rattle.policy.specs.Formula.{Formula as ActionFormula, always-true, always-false, proposition, negation, conjunction, disjunction}
use Rattle.policy.specs.Policy.{Policy, now, holds-first, count, not-p, and-p, or-p, eventually, always, before-, before+, after-, after+, fulfilling, ignoring}
use Rattle.syntax.specs.Nodes.{node_of}
use Rattle.syntax.specs.Shape.{shape_of}
use Rattle.syntax.specs.Meaning.{Meaning, formula, policy}
use Rattle.syntax.specs.declared.Node.{Node}
use Rattle.syntax.specs.declared.Node.TheVariants.{True, False, Proposition, Negation, Conjunction, Disjunction, Now, Holds, Count, Not, And, Or, Eventually, Always, BeforeMinus, BeforePlus, AfterMinus, AfterPlus, Fulfilling, Ignoring}
use Rattle.syntax.specs.declared.Sheet.{Sheet}
use Rattle.typing.proofs.Meanings.{node_meaning}
use Rattle.sheet_layout.specs.Layout.{field, node_count}
use Rattle.sheet_reading.specs.ReadFrom.{ReadFrom}
use Rattle.grammar.specs.Words.{Word}
use Rattle.grammar.specs.Nodes.{over_one, over_two, over_three, formula_nodes, policy_nodes}
use Rattle.grammar.proofs.Sizes.{length-one, length_two, length_three}
use Rattle.parsed_sheets.specs.Sheets.{sheet_for}
use Rattle.parsed_sheets.proofs.Each.{front, back}
use Rattle.parsed_sheets.proofs.ListedNodes.{nodes-listed}
use Rattle.parsed_sheets.proofs.Meanings.{Stand, formula-means, policy-means}
use Rattle.part_words.specs.Places.{words_among, words_before}
use Rattle.part_laws.specs.Spelled.{formula_words, policy_words, first_word}
use Rattle.part_laws.proofs.Shapes.{meaning_words, meaning_size, head_words, part_list}
use Rattle.part_laws.proofs.NodeSizes.{formula-size, policy-size}
use Rattle.part_laws.proofs.ReadKinds.{says-node}
use Rattle.part_words.proofs.PlaceLaws.{none_yet}
use Rattle.part_laws.proofs.Forests.{Forest, bare, tree, forest-then, low-size, placed}

module _ (bytes : List ℕ) (sheet : Sheet) (read : ReadFrom bytes sheet) where
  abbrev words : ℕ → List Word
  words n = meaning_words (node_meaning sheet n)

  abbrev size : ℕ → ℕ
  size n = meaning_size (node_meaning sheet n)

  -- the last of nodes from n on means x, which is as many nodes
  abbrev Whole : ℕ → List Node → Meaning → Type 0
  Whole n l x = (node_meaning sheet (n + length l - 1) ≡ x) × (meaning_size x ≡ length l)

  formula-whole : (n : ℕ) (f : ActionFormula) → Stand sheet n (formula_nodes n f) → Whole n (formula_nodes n f) (formula f)
  formula-whole n f s = (formula-means sheet n f s, formula-size n f)

  policy-whole : (n : ℕ) (p : Policy) → Stand sheet n (policy_nodes n p) → Whole n (policy_nodes n p) (policy p)
  policy-whole n p s = (policy-means sheet n p s, policy-size n p)

  -- nodes from n on, as one tree
  abbrev Grown : ℕ → List Node → List Word → Type 0
  Grown n l ws = Forest bytes words size n (n + length l) ((n + length l - 1) ∷ []) ws

  -- the whole is node m, behind its parts
  grown : (n m : ℕ) (l : List Node) (w : Node) {us : List Word} (x : Meaning) → n + length l ≡ suc m → n + length l ≤ sheet.count → node_of sheet m ≡ w
      → Whole n l x → meaning_words x ≡ head_words (shape_of w) ++ us → Forest bytes words size n m (part_list (shape_of w)) us → Grown n l (meaning_words x)
  grown n m l w {us} x e c s means is f =
      let z : n + length l - 1 ≡ m = omega arith in
      let meant : node_meaning sheet m ≡ x = rw z at means.0 in
      let said =
      says-node (field bytes m 0) (field bytes m 1) (field bytes m 2) (field bytes m 3) (field bytes m 4) m w
      (read.nodes m (omega arith) ∙ ap (λ (y : Node). Ok y) s) in
      let t = tree (head_words (shape_of w)) f said.1 (sym said.2) (ap meaning_words meant ∙ is) (omega (arith, ap meaning_size meant, means.1)) (bare {from = suc m}) in
      rw (z, e) (subst (Forest bytes words size n (suc m) (m ∷ [])) (append-nil (words m) ∙ ap meaning_words meant) t)

  leaf : (n : ℕ) (w : Node) (x : Meaning) → n + 1 ≤ sheet.count → Stand sheet n (w ∷ []) → Whole n (w ∷ []) x → part_list (shape_of w) ≡ []
      → meaning_words x ≡ head_words (shape_of w) ++ [] → Grown n (w ∷ []) (meaning_words x)
  leaf n w x c s means none is =
      grown n n (w ∷ []) w x (omega arith) c s.0 means is (subst (λ (l : List ℕ). Forest bytes words size n n l []) (sym none) bare)

  one : (n : ℕ) (a : List Node) (whole : ℕ → Node) (x : Meaning) {us : List Word} → ((i : ℕ) → part_list (shape_of (whole i)) ≡ i ∷ [])
      → ((i : ℕ) → meaning_words x ≡ head_words (shape_of (whole i)) ++ us) → n + length (over_one n a whole) ≤ sheet.count → Stand sheet n (over_one n a whole)
      → Whole n (over_one n a whole) x → (n + length a ≤ sheet.count → Stand sheet n a → Grown n a us) → Grown n (over_one n a whole) (meaning_words x)
  one n a whole x {us} parts is c s means p =
      let m = n + length a in
      let w = whole (m - 1) in
      let long = length-one a w in
      grown n m (over_one n a whole) w x (omega arith) c (back _ n a (w ∷ []) s).0 means (is (m - 1))
      (subst (λ (l : List ℕ). Forest bytes words size n m l us) (sym (parts (m - 1))) (p (omega arith) (front _ n a (w ∷ []) s)))

  two : (n : ℕ) (a b : List Node) (whole : ℕ → ℕ → Node) (x : Meaning) {us vs : List Word} → ((i j : ℕ) → part_list (shape_of (whole i j)) ≡ i ∷ j ∷ [])
      → ((i j : ℕ) → meaning_words x ≡ head_words (shape_of (whole i j)) ++ (us ++ vs)) → n + length (over_two n a b whole) ≤ sheet.count → Stand sheet n (over_two n a b whole)
      → Whole n (over_two n a b whole) x → (n + length a ≤ sheet.count → Stand sheet n a → Grown n a us)
      → (n + length a + length b ≤ sheet.count → Stand sheet (n + length a) b → Grown (n + length a) b vs) → Grown n (over_two n a b whole) (meaning_words x)
  two n a b whole x {us} {vs} parts is c s means p q =
      let k = n + length a in
      let m = k + length b in
      let w = whole (k - 1) (m - 1) in
      let long = length_two a b w in
      let t = back _ n a (b ++ (w ∷ [])) s in
      grown n m (over_two n a b whole) w x (omega arith) c (back _ k b (w ∷ []) t).0 means (is (k - 1) (m - 1))
      (subst (λ (l : List ℕ). Forest bytes words size n m l (us ++ vs)) (sym (parts (k - 1) (m - 1)))
      (forest-then bytes (p (omega arith) (front _ n a (b ++ (w ∷ [])) s)) (q (omega arith) (front _ k b (w ∷ []) t))))

  three : (n : ℕ) (a b c : List Node) (whole : ℕ → ℕ → ℕ → Node) (x : Meaning) {us vs ws : List Word}
      → ((i j k : ℕ) → part_list (shape_of (whole i j k)) ≡ i ∷ j ∷ k ∷ []) → ((i j k : ℕ) → meaning_words x ≡ head_words (shape_of (whole i j k)) ++ (us ++ (vs ++ ws)))
      → n + length (over_three n a b c whole) ≤ sheet.count → Stand sheet n (over_three n a b c whole) → Whole n (over_three n a b c whole) x
      → (n + length a ≤ sheet.count → Stand sheet n a → Grown n a us) → (n + length a + length b ≤ sheet.count → Stand sheet (n + length a) b → Grown (n + length a) b vs)
      → (n + length a + length b + length c ≤ sheet.count → Stand sheet (n + length a + length b) c → Grown (n + length a + length b) c ws)
      → Grown n (over_three n a b c whole) (meaning_words x)
  three n a b c whole x {us} {vs} {ws} parts is few s means p q r =
      let k = n + length a in
      let l = k + length b in
      let m = l + length c in
      let w = whole (k - 1) (l - 1) (m - 1) in
      let long = length_three a b c w in
      let t = back _ n a (b ++ (c ++ (w ∷ []))) s in
      let u = back _ k b (c ++ (w ∷ [])) t in
      grown n m (over_three n a b c whole) w x (omega arith) few (back _ l c (w ∷ []) u).0 means (is (k - 1) (l - 1) (m - 1))
      (subst (λ (y : List ℕ). Forest bytes words size n m y (us ++ (vs ++ ws))) (sym (parts (k - 1) (l - 1) (m - 1)))
      (forest-then bytes (p (omega arith) (front _ n a (b ++ (c ++ (w ∷ []))) s))
      (forest-then bytes (q (omega arith) (front _ k b (c ++ (w ∷ [])) t)) (r (omega arith) (front _ l c (w ∷ []) u)))))

  formula-grown : (n : ℕ) (f : ActionFormula) → n + length (formula_nodes n f) ≤ sheet.count → Stand sheet n (formula_nodes n f) → Grown n (formula_nodes n f) (formula_words f)
  formula-grown n always-true c s = leaf n True (formula always-true) c s (formula-whole n always-true s) refl refl
  formula-grown n always-false c s = leaf n False (formula always-false) c s (formula-whole n always-false s) refl refl
  formula-grown n (proposition p) c s = leaf n (Proposition p) (formula (proposition p)) c s (formula-whole n (proposition p) s) refl refl
  formula-grown n (negation f) c s =
      one n (formula_nodes n f) Negation (formula (negation f)) (λ i. refl) (λ i. refl) c s (formula-whole n (negation f) s) (formula-grown n f)
  formula-grown n (conjunction f g) c s =
      two n (formula_nodes n f) (formula_nodes _ g) Conjunction (formula (conjunction f g)) (λ i j. refl) (λ i j. refl) c s (formula-whole n (conjunction f g) s)
      (formula-grown n f) (formula-grown (n + length (formula_nodes n f)) g)
  formula-grown n (disjunction f g) c s =
      two n (formula_nodes n f) (formula_nodes _ g) Disjunction (formula (disjunction f g)) (λ i j. refl) (λ i j. refl) c s (formula-whole n (disjunction f g) s)
      (formula-grown n f) (formula-grown (n + length (formula_nodes n f)) g)

  -- over one policy, and over two
  abbrev Grows : Policy → Type 0
  Grows p = (n : ℕ) → n + length (policy_nodes n p) ≤ sheet.count → Stand sheet n (policy_nodes n p) → Grown n (policy_nodes n p) (policy_words p)

  pair : (n : ℕ) (a b : Policy) (whole : ℕ → ℕ → Node) (x : Policy) → ((i j : ℕ) → part_list (shape_of (whole i j)) ≡ i ∷ j ∷ [])
      → ((i j : ℕ) → policy_words x ≡ head_words (shape_of (whole i j)) ++ (policy_words a ++ policy_words b))
      → n + length (over_two n (policy_nodes n a) (policy_nodes (n + length (policy_nodes n a)) b) whole) ≤ sheet.count
      → Stand sheet n (over_two n (policy_nodes n a) (policy_nodes (n + length (policy_nodes n a)) b) whole)
      → Whole n (over_two n (policy_nodes n a) (policy_nodes (n + length (policy_nodes n a)) b) whole) (policy x) → Grows a → Grows b
      → Grown n (over_two n (policy_nodes n a) (policy_nodes (n + length (policy_nodes n a)) b) whole) (policy_words x)
  pair n a b whole x parts is c s means p q =
      two n (policy_nodes n a) (policy_nodes _ b) whole (policy x) parts is c s means (p n) (q (n + length (policy_nodes n a)))

  policy-grown : (n : ℕ) (p : Policy) → n + length (policy_nodes n p) ≤ sheet.count → Stand sheet n (policy_nodes n p) → Grown n (policy_nodes n p) (policy_words p)
  policy-grown n (now f) c s = one n (formula_nodes n f) Now (policy (now f)) (λ i. refl) (λ i. refl) c s (policy-whole n (now f) s) (formula-grown n f)
  policy-grown n (holds-first f) c s =
      one n (formula_nodes n f) Holds (policy (holds-first f)) (λ i. refl) (λ i. refl) c s (policy-whole n (holds-first f) s) (formula-grown n f)
  policy-grown n (count k) c s = leaf n (Count k) (policy (count k)) c s (policy-whole n (count k) s) refl refl
  policy-grown n (not-p a) c s = one n (policy_nodes n a) Not (policy (not-p a)) (λ i. refl) (λ i. refl) c s (policy-whole n (not-p a) s) (policy-grown n a)
  policy-grown n (and-p a b) c s =
      pair n a b And (and-p a b) (λ i j. refl) (λ i j. refl) c s (policy-whole n (and-p a b) s) (λ i. policy-grown i a) (λ i. policy-grown i b)
  policy-grown n (or-p a b) c s =
      pair n a b Or (or-p a b) (λ i j. refl) (λ i j. refl) c s (policy-whole n (or-p a b) s) (λ i. policy-grown i a) (λ i. policy-grown i b)
  policy-grown n (eventually a) c s =
      one n (policy_nodes n a) Eventually (policy (eventually a)) (λ i. refl) (λ i. refl) c s (policy-whole n (eventually a) s) (policy-grown n a)
  policy-grown n (always a) c s =
      one n (policy_nodes n a) Always (policy (always a)) (λ i. refl) (λ i. refl) c s (policy-whole n (always a) s) (policy-grown n a)
  policy-grown n (before- a b) c s =
      pair n a b BeforeMinus (before- a b) (λ i j. refl) (λ i j. refl) c s (policy-whole n (before- a b) s) (λ i. policy-grown i a) (λ i. policy-grown i b)
  policy-grown n (before+ a b) c s =
      pair n a b BeforePlus (before+ a b) (λ i j. refl) (λ i j. refl) c s (policy-whole n (before+ a b) s) (λ i. policy-grown i a) (λ i. policy-grown i b)
  policy-grown n (after- a b) c s =
      pair n a b AfterMinus (after- a b) (λ i j. refl) (λ i j. refl) c s (policy-whole n (after- a b) s) (λ i. policy-grown i a) (λ i. policy-grown i b)
  policy-grown n (after+ a b) c s =
      pair n a b AfterPlus (after+ a b) (λ i j. refl) (λ i j. refl) c s (policy-whole n (after+ a b) s) (λ i. policy-grown i a) (λ i. policy-grown i b)
  policy-grown n (fulfilling k a b d) c s =
      three n (policy_nodes n a) (policy_nodes _ b) (policy_nodes _ d) (Fulfilling k) (policy (fulfilling k a b d)) (λ i j l. refl) (λ i j l. refl) c s
      (policy-whole n (fulfilling k a b d) s) (policy-grown n a) (policy-grown (n + length (policy_nodes n a)) b)
      (policy-grown (n + length (policy_nodes n a) + length (policy_nodes (n + length (policy_nodes n a)) b)) d)
  policy-grown n (ignoring f b) c s =
      two n (formula_nodes n f) (policy_nodes _ b) Ignoring (policy (ignoring f b)) (λ i j. refl) (λ i j. refl) c s (policy-whole n (ignoring f b) s)
      (formula-grown n f) (policy-grown (n + length (formula_nodes n f)) b)

-- The sheet of a policy, held by bytes: its nodes are the words of the policy's text, one tree.
module _ (actions : List ℕ) (p : Policy) (bytes : List ℕ) (read : ReadFrom bytes (sheet_for actions p)) where
  abbrev sheet : Sheet
  sheet = sheet_for actions p

  abbrev count-of : ℕ
  count-of = length (policy_nodes 0 p)

  abbrev one-tree : Forest bytes (λ n. meaning_words (node_meaning sheet n)) (λ n. meaning_size (node_meaning sheet n)) 0 (0 + count-of) ((0 + count-of - 1) ∷ []) (policy_words p)
  one-tree = policy-grown bytes sheet read 0 p (omega (arith, zero-add count-of)) (nodes-listed actions p)

  module _ (n : ℕ) (below : n < length (policy_nodes 0 p)) where
    -- a node with its parts is no more nodes than the sheet has
    pub node-size : meaning_size (node_meaning (sheet_for actions p) n) ≤ length (policy_nodes 0 p)
    node-size = omega (arith, low-size bytes one-tree n (omega arith) (omega (arith, zero-add count-of)))

    -- the words of its part stand in the text behind as many words as are said to stand before them
    pub words-before : (m : Mode) → (rest : List Word) × (drop (words_before bytes n) (first_word m ∷ policy_words p) ≡ meaning_words (node_meaning (sheet_for actions p) n) ++ rest)
    words-before m =
        let all : 0 + count-of ≡ count-of = zero-add count-of in
        let i = placed bytes n (omega arith) (omega arith) one-tree in
        let counted : words_among bytes n (node_count bytes) ≡ i.count =
        ap (words_among bytes n) (sym read.count ∙ sym all) ∙ i.before ∙ omega (arith, none_yet bytes n) in
        let next : words_before bytes n ≡ suc i.count = omega arith in
        (i.rest, rw next i.here)
