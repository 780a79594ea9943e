-- The nodes reached through And alone from a node of a formed sheet: they stand at or before it, and are all satisfied where it is. Those reached
-- from the policy are of its mode.
-- Assumes nothing.
use mathlib.Core.Path.{◌≡◌, refl, sym, ◌∙◌, ap, ap₂}
use mathlib.Core.Bool.{Bool, true, false, cond, ◌&&◌}
use mathlib.Core.List.{List}
use Prim.Native.Nat.{ℕ, ◌≤◌, ◌<◌}
use native.Mathlib.Omega.{arith}
use Rattle.std.specs.Prelude.{Err, None, Ok}
use Rattle.base.proofs.Truths.{and-true}
use Rattle.trace.specs.declared.Mode.{Mode}
use Rattle.trace.specs.declared.Mode.TheVariants.{Watched, Enforced}
use Rattle.policy.specs.declared.Bound.{Bound}
use Rattle.policy.specs.Policy.{Policy as APolicy, and-p, satisfies}
use Rattle.policy.specs.Typing.{typed as Typed, Typing, alike_typed}
use Rattle.policy.proofs.Typings.{same-type}
use Rattle.syntax.specs.Nodes.{node_of, propositions_of}
use Rattle.syntax.specs.Shape.{And, Shape, binary, shape_of, with_parts}
use Rattle.syntax.specs.Formed.{Formed}
use Rattle.syntax.specs.Types.{type_at, typing_of, bound_fits, found}
use Rattle.syntax.specs.Meaning.{Meaning, as_policy, meaning_at, meaning_from, meanings, node_policy}
use Rattle.reached.specs.Reached.{itself, onward}
use Rattle.reached.specs.Parts.{AndPart, left, right, ReachedByAnd, Used}
use Rattle.typing.specs.Typed.{SoundSheet}
use Rattle.syntax.specs.declared.NodeType.{NodeType}
use Rattle.syntax.specs.declared.NodeType.TheVariants.{Unused, Formula, Policy}
use Rattle.syntax.specs.declared.Sheet.{Sheet}
use Rattle.syntax.specs.declared.TypeError.TheVariants.{TooLong}
use Rattle.typing.proofs.Meanings.{meaning-of, meaning-stays}
use Rattle.reached.proofs.ReachedSets.{reached-map, reached-no-later}
use Rattle.reached.proofs.NodeSets.{and-earlier, and-is-part}
use Rattle.typing.proofs.Sound.{typed-fits, typed-policy}
use Rattle.explaining.specs.Denials.{policy_node, satisfies_node}

module _ (sheet : Sheet) where
  -- An And is satisfied where both of its parts are.
  pub and-satisfied : (n a b : ℕ) → shape_of (node_of sheet n) ≡ binary And a b → a < n → b < n → (w : List ℕ)
      → satisfies_node sheet n w ≡ (satisfies_node sheet a w && satisfies_node sheet b w)
  and-satisfied n a b e la lb w = ap (λ (p : APolicy). satisfies (propositions_of sheet) p w) same
    where
      same : node_policy sheet n ≡ and-p (node_policy sheet a) (node_policy sheet b)
      same =
          ap as_policy (meaning-of sheet n ∙ ap (λ (x : Shape ℕ). meaning_from (with_parts (meaning_at (meanings sheet.nodes n)) x)) e)
          ∙ ap₂ (λ (p q : Meaning). and-p (as_policy p) (as_policy q)) (meaning-stays sheet n a la) (meaning-stays sheet n b lb)

module _ {sheet : Sheet} (formed : Formed sheet) where
  part-before : {n m : ℕ} → n < sheet.count → AndPart sheet n m → m < n
  part-before {n} {m} h p = and-earlier sheet n (λ k g. formed.parts k (omega arith)) n m (omega arith) p

  -- The parts of an And stand before it.
  pub parts-before : (n a b : ℕ) → n < sheet.count → shape_of (node_of sheet n) ≡ binary And a b → (a < n) × (b < n)
  parts-before n a b h e = (part-before h (left e), part-before h (right e))

  part-satisfied : {n m : ℕ} → n < sheet.count → AndPart sheet n m → (w : List ℕ) → satisfies_node sheet n w ≡ true → satisfies_node sheet m w ≡ true
  part-satisfied {n} h (left {a} {b} e) w s =
      let (la, lb) = parts-before n a b h e in (and-true (satisfies_node sheet a w) (satisfies_node sheet b w) (sym (and-satisfied sheet n a b e la lb w) ∙ s)).0
  part-satisfied {n} h (right {a} {b} e) w s =
      let (la, lb) = parts-before n a b h e in (and-true (satisfies_node sheet a w) (satisfies_node sheet b w) (sym (and-satisfied sheet n a b e la lb w) ∙ s)).1

  -- The policy's own node is a node of the sheet.
  pub policy-inside : policy_node sheet < sheet.count
  policy-inside = omega (arith, formed.some-node)

  module _ {from : ℕ} (inside : from < sheet.count) where
    -- A node reached from another through And alone stands at or before it.
    pub reached-low : {m : ℕ} → ReachedByAnd sheet from m → m ≤ from
    reached-low r = reached-no-later (λ n m h p. part-before (omega arith) p) r

    -- It is a node of the sheet.
    pub reached-inside : {m : ℕ} → ReachedByAnd sheet from m → m < sheet.count
    reached-inside r = omega (arith, reached-low r)

    -- Where a node is satisfied, so is every one reached from it through And alone.
    pub reached-satisfied : {m : ℕ} → ReachedByAnd sheet from m → (w : List ℕ) → satisfies_node sheet from w ≡ true → satisfies_node sheet m w ≡ true
    reached-satisfied itself w s = s
    reached-satisfied (onward r p) w s = part-satisfied (reached-inside r) p w (reached-satisfied r w s)

-- two typings that are alike: both have the mode of the whole
alike-modes : (s t : Typing) {m : Mode} {k : Bound} → alike_typed s t ≡ Typed m k → ((i : Bound) × (s ≡ Typed m i)) × ((j : Bound) × (t ≡ Typed m j))
alike-modes (Typed Watched i) (Typed Watched j) {m} e = let q : Watched ≡ m = (same-type e).0 in ((i, ap (λ (n : Mode). Typed n i) q), (j, ap (λ (n : Mode). Typed n j) q))
alike-modes (Typed Watched i) (Typed Enforced j) e = absurd (let z : ◌≡◌ {A = ℕ} 0 1 = cc in omega arith)
alike-modes (Typed Watched i) None e = absurd (let z : ◌≡◌ {A = ℕ} 0 1 = cc in omega arith)
alike-modes (Typed Enforced i) (Typed Watched j) e = absurd (let z : ◌≡◌ {A = ℕ} 0 1 = cc in omega arith)
alike-modes (Typed Enforced i) (Typed Enforced j) {m} e = let q : Enforced ≡ m = (same-type e).0 in ((i, ap (λ (n : Mode). Typed n i) q), (j, ap (λ (n : Mode). Typed n j) q))
alike-modes (Typed Enforced i) None e = absurd (let z : ◌≡◌ {A = ℕ} 0 1 = cc in omega arith)
alike-modes None t e = absurd (let z : ◌≡◌ {A = ℕ} 0 1 = cc in omega arith)

found-typed : (t : Typing) {m : Mode} {k : Bound} → found t ≡ Ok (Policy m k) → t ≡ Typed m k
found-typed (Typed n j) {m} {k} e = by (bound_fits j) e
  where
    by : (b : Bool) → cond b (Ok (Policy n j)) (Err TooLong) ≡ Ok (Policy m k) → Typed n j ≡ Typed m k
    by true q = let e : n ≡ m = cc in let d : j ≡ k = cc in rw (e, d) refl
    by false q = absurd (let z : ◌≡◌ {A = ℕ} 0 1 = cc in omega arith)
found-typed None e = absurd (let z : ◌≡◌ {A = ℕ} 0 1 = cc in omega arith)

typing-of : (t : NodeType) {m : Mode} {k : Bound} → typing_of t ≡ Typed m k → t ≡ Policy m k
typing-of Unused e = absurd (let z : ◌≡◌ {A = ℕ} 0 1 = cc in omega arith)
typing-of Formula e = absurd (let z : ◌≡◌ {A = ℕ} 0 1 = cc in omega arith)
typing-of (Policy n j) e = let q = same-type e in rw (q.0, q.1) refl

module _ {mode : Mode} {sheet : Sheet} {types : List NodeType} (s : SoundSheet mode sheet types) where
  part-modes : (n a b : ℕ) → n < sheet.count → shape_of (node_of sheet n) ≡ binary And a b → {k : Bound} → type_at types n ≡ Policy mode k
      → ((i : Bound) × (type_at types a ≡ Policy mode i)) × ((j : Bound) × (type_at types b ≡ Policy mode j))
  part-modes n a b h e {k} t =
      let q : found (alike_typed (typing_of (type_at types a)) (typing_of (type_at types b))) ≡ Ok (Policy mode k) = rw (e, t) at (typed-fits s n h (typed-policy t)) in
      let (x, y) = alike-modes (typing_of (type_at types a)) (typing_of (type_at types b)) (found-typed _ q) in
      ((x.0, typing-of (type_at types a) x.1), (y.0, typing-of (type_at types b) y.1))

  -- A node reached from the policy through And alone is used, and a policy of the sheet's mode.
  pub reached-used : {m : ℕ} → ReachedByAnd sheet (policy_node sheet) m → Used sheet m
  reached-used r = reached-map (and-is-part sheet) r

  pub reached-mode : {m : ℕ} → ReachedByAnd sheet (policy_node sheet) m → (bound : Bound) × (type_at types m ≡ Policy mode bound)
  reached-mode itself = (s.bound, s.last)
  reached-mode (onward r p) = by p (reached-inside s.formed (policy-inside s.formed) r) (reached-mode r)
    where
      by : {n m : ℕ} → AndPart sheet n m → n < sheet.count → (k : Bound) × (type_at types n ≡ Policy mode k) → (bound : Bound) × (type_at types m ≡ Policy mode bound)
      by {n} (left {a} {b} e) h (k, t) = (part-modes n a b h e t).0
      by {n} (right {a} {b} e) h (k, t) = (part-modes n a b h e t).1
