-- Nodes in the order of a text, each behind its parts and none shared: how many words stand before that of each.
-- Assumes nothing.
use mathlib.Core.Path.{◌≡◌, refl, sym, ap, subst, ◌∙◌}
use mathlib.Core.Bool.{Bool, true, false}
use mathlib.Core.List.{List, [], ◌∷◌, ◌++◌, append_assoc}
use Prim.Native.Nat.{ℕ, zero, suc, ◌+◌, ◌≤◌, ◌<◌}
use native.Mathlib.Decide.{ℕ_discrete}
use native.Mathlib.Numerals.{add-one}
use native.Mathlib.Omega.{arith}
use lib.Dec.{ltb}
use lib.ListN.{length, take, drop, length-append}
use lib.Seq.{drop-append-le, drop-append-add}
use borrow.Author.Tests.{lt-ltb, le-ltb, le-leb, lt-leb, ltb-true, ltb-false}
use Rattle.sheet_layout.specs.Layout.{field}
use Rattle.grammar.specs.Words.{Word}
use Rattle.part_words.specs.Kinds.{part_count}
use Rattle.part_words.specs.Parts.{node_parts}
use Rattle.part_words.specs.Places.{first_part, first_under, own_words, words_if_before, words_among}
use Rattle.part_words.proofs.PartLaws.{parts-sized}
use Rattle.part_words.proofs.PlaceLaws.{no-first-part, some-first-part, goes_on, stops, earlier, later, counted, not-counted, one_more}

-- a number is below another, equal or above
data Order (a b : ℕ) : Type 0 where
  below : a < b → Order a b
  equal : a ≡ b → Order a b
  above : b < a → Order a b

order : (a b : ℕ) → Order a b
order a b = by (ltb a b) refl
  where
    by : (t : Bool) → ltb a b ≡ t → Order a b
    by true e = below (ltb-true a b e)
    by false e = let h = ltb-false a b e in elim (ℕ_discrete a b) [ yes p ↦ equal p | no q ↦ above (omega arith) ]

-- the first of the elements that are taken
first_taken : (n a q : ℕ) (l t : List ℕ) → take n (a ∷ l) ≡ q ∷ t → (n ≡ 0 → ⊥) × (a ≡ q)
first_taken zero a q l t e = absurd (let z : ◌≡◌ {A = ℕ} 0 1 = cc in omega arith)
first_taken (suc n) a q l t e = (λ z. omega arith, cc)

module _ (bytes : List ℕ) where
  -- words of nodes that stand before node n, from a node on
  module _ (n : ℕ) where
    before_more : (k : ℕ) → words_among bytes n (suc k) ≡ words_among bytes n k + words_if_before bytes k n
    before_more k = ap (words_among bytes n) (sym (add-one k)) ∙ one_more bytes n k

    none_between : (from to : ℕ) → from ≤ to → ((k : ℕ) → from ≤ k → k < to → words_if_before bytes k n ≡ 0) → words_among bytes n to ≡ words_among bytes n from
    none_between from zero h f = let z : from ≡ 0 = omega arith in rw z
    none_between from (suc to) h f = elim (ℕ_discrete from (suc to)) [
      | yes p ↦ ap (words_among bytes n) (sym p)
      | no q ↦ before_more to ∙ omega (arith, f to (omega arith) (omega arith), none_between from to (omega arith) (λ k l g. f k l (omega arith)))
    ]

    -- a node's words stand before, or not
    stand-before : (k : ℕ) → k < n → k < first_under bytes n → words_if_before bytes k n ≡ own_words bytes k
    stand-before k h l = sym (counted bytes k n (sym (earlier bytes k n h) ∙ lt-ltb _ _ l))

    stand-within : (k : ℕ) → k < n → first_under bytes n ≤ k → words_if_before bytes k n ≡ 0
    stand-within k h l = sym (not-counted bytes k n (sym (earlier bytes k n h) ∙ le-ltb _ _ l))

    stand-around : (k : ℕ) → n < k → first_under bytes k ≤ n → words_if_before bytes k n ≡ own_words bytes k
    stand-around k h l = sym (counted bytes k n (sym (later bytes k n (omega arith)) ∙ rw (lt-ltb n k h, le-leb _ _ l)))

    stand-behind : (k : ℕ) → n < k → n < first_under bytes k → words_if_before bytes k n ≡ 0
    stand-behind k h l = sym (not-counted bytes k n (sym (later bytes k n (omega arith)) ∙ rw (lt-ltb n k h, lt-leb _ _ l)))

    stand-itself : words_if_before bytes n n ≡ 0
    stand-itself = sym (not-counted bytes n n (sym (later bytes n n (omega arith)) ∙ rw (le-ltb n n (omega arith))))

  -- Nodes from `from` to before `to`: trees one behind the other, with their roots and their words. Each is as many nodes as its size says.
  pub data Forest (words : ℕ → List Word) (size : ℕ → ℕ) : (from to : ℕ) (roots : List ℕ) (text : List Word) → Type 0 where
    bare : {from : ℕ} → Forest words size from from [] []
    tree : {from root to : ℕ} {parts roots : List ℕ} {us vs : List Word} (head : List Word) → Forest words size from root parts us → node_parts bytes root ≡ parts
        → length head ≡ own_words bytes root → words root ≡ head ++ us → from + size root ≡ suc root → Forest words size (suc root) to roots vs → Forest words size from to (root ∷ roots) (words root ++ vs)

  module _ {words : ℕ → List Word} {size : ℕ → ℕ} where
    pub forest-then : {a b c : ℕ} {p q : List ℕ} {us vs : List Word} → Forest words size a b p us → Forest words size b c q vs → Forest words size a c (p ++ q) (us ++ vs)
    forest-then bare g = g
    forest-then {a} {c = c} {q = q} {vs = vs} (tree {root = root} {roots = roots} {vs = ws} head f p l w z h) g =
        subst (Forest words size a c (root ∷ (roots ++ q))) (sym (append_assoc (words root) ws vs)) (tree head f p l w z (forest-then h g))

    onward : {from to : ℕ} {roots : List ℕ} {ws : List Word} → Forest words size from to roots ws → from ≤ to
    onward bare = omega arith
    onward (tree head f p l w z g) = let a = onward f in let b = onward g in omega arith

    -- the first node of a tree
    first-of : {from root : ℕ} {parts : List ℕ} {us : List Word} → Forest words size from root parts us → node_parts bytes root ≡ parts → first_under bytes root ≡ from
    first-of {root = root} bare p =
        let none : part_count (field bytes root 0) ≡ 0 = omega (arith, parts-sized bytes root, ap length p) in
        stops bytes root (omega (arith, no-first-part bytes root none))
    first-of {root = root} (tree {root = part} {roots = roots} head f q l w z g) p =
        let h = first_taken (part_count (field bytes root 0)) (field bytes root 2) part (field bytes root 3 ∷ field bytes root 4 ∷ []) roots p in
        let is : first_part bytes root ≡ part = sym (some-first-part bytes root h.0) ∙ h.1 in
        let near = onward g in
        sym (goes_on bytes root (omega arith)) ∙ ap (first_under bytes) is ∙ first-of f q

    first-in : {from to : ℕ} {roots : List ℕ} {ws : List Word} → Forest words size from to roots ws → (k : ℕ) → from ≤ k → k < to → from ≤ first_under bytes k
    first-in bare k h l = absurd (omega arith)
    first-in {from} (tree {root = root} head f p l w z g) k h m = elim (order k root) [
      | below b ↦ first-in f k h b
      | equal e ↦ omega (arith, ap (first_under bytes) e, first-of f p)
      | above b ↦ let a = onward f in omega (arith, first-in g k b m)
    ]

    -- a node with all its parts is no more nodes than stand up to it
    pub low-size : {from to : ℕ} {roots : List ℕ} {ws : List Word} → Forest words size from to roots ws → (n : ℕ) → from ≤ n → n < to → size n ≤ suc n
    low-size bare n h l = absurd (omega arith)
    low-size (tree {root = root} head f p l w z g) n h m = elim (order n root) [
      | below b ↦ low-size f n h b
      | equal e ↦ omega (arith, ap size e)
      | above b ↦ low-size g n b m
    ]

    -- all words of nodes that end before node n's first one
    all-before : {from to : ℕ} {roots : List ℕ} {ws : List Word} (n : ℕ) → to ≤ n → to ≤ first_under bytes n → Forest words size from to roots ws
        → words_among bytes n to ≡ words_among bytes n from + length ws
    all-before n h l bare = omega arith
    all-before n h l (tree {root = root} {us = us} {vs = vs} head f p own w z g) =
        let a = onward g in
        let first = all-before n (omega arith) (omega arith) f in
        let last = all-before n h l g in
        let next = before_more n root in
        let here = stand-before n root (omega arith) (omega arith) in
        let long : length (words root) ≡ length head + length us = ap length w ∙ length-append head us in
        omega (arith, length-append (words root) vs)

    -- none of nodes behind node n that begin behind it
    none-behind : {from to : ℕ} {roots : List ℕ} {ws : List Word} (n : ℕ) → n < from → Forest words size from to roots ws → words_among bytes n to ≡ words_among bytes n from
    none-behind {from} {to} n h f =
        none_between n from to (onward f) (λ k l m. let a = first-in f k l m in stand-behind n k (omega arith) (omega arith))

  -- Node n is among them: so many words stand before its own.
  pub record Placed (words : ℕ → List Word) (n from to : ℕ) (ws : List Word) : Type 0 where
    pub count : ℕ
    pub rest : List Word
    pub before : words_among bytes n to ≡ words_among bytes n from + count
    pub within : count ≤ length ws
    pub here : drop count ws ≡ words n ++ rest

  module _ {words : ℕ → List Word} {size : ℕ → ℕ} where
    pub placed : {from to : ℕ} {roots : List ℕ} {ws : List Word} (n : ℕ) → from ≤ n → n < to → Forest words size from to roots ws → Placed words n from to ws
    placed n h l bare = absurd (omega arith)
    placed {from} {to} n h l (tree {root = root} {us = us} {vs = vs} head f p own w z g) = by (λ b. placed n h b f) (λ b. placed n b l g) (order n root)
      where
        long : length (words root ++ vs) ≡ length head + length us + length vs
        long = length-append (words root) vs ∙ omega (arith, ap length w, length-append head us)

        spread : words root ++ vs ≡ head ++ (us ++ vs)
        spread = ap (λ (x : List Word). x ++ vs) w ∙ append_assoc head us vs

        by : (n < root → Placed words n from root us) → (root < n → Placed words n (suc root) to vs) → Order n root → Placed words n from to (words root ++ vs)
        by inner others (below b) =
            let i = inner b in
            let next = before_more n root in
            let own-before = stand-around n root b (omega (arith, first-of f p)) in
            let behind = none-behind n (omega arith) g in
            record {
              count = length head + i.count;
              rest = i.rest ++ vs;
              before = omega (arith, i.before);
              within = omega (arith, i.within, long);
              here =
                  ap (drop (length head + i.count)) spread ∙ drop-append-add head (us ++ vs) i.count ∙ drop-append-le i.count us vs i.within
                  ∙ ap (λ (x : List Word). x ++ vs) i.here ∙ append_assoc (words n) i.rest vs;
            }
        by inner others (equal e) =
            let inside = none_between n from root (onward f) (λ k a b. stand-within n k (omega arith) (omega (arith, first-of f p, ap (first_under bytes) e))) in
            let next = before_more n root in
            let own-none = ap (λ (k : ℕ). words_if_before bytes k n) (sym e) ∙ stand-itself n in
            let behind = none-behind n (omega arith) g in
            record { count = 0; rest = vs; before = omega arith; within = omega arith; here = ap (λ (k : ℕ). words k ++ vs) (sym e) }
        by inner others (above b) =
            let i = others b in
            let far = first-in g n b l in
            let first = all-before n (omega arith) (omega arith) f in
            let next = before_more n root in
            let own-before = stand-before n root b (omega arith) in
            record {
              count = length (words root) + i.count;
              rest = i.rest;
              before = omega (arith, i.before, ap length w, length-append head us);
              within = omega (arith, i.within, length-append (words root) vs);
              here = drop-append-add (words root) vs i.count ∙ i.here;
            }
