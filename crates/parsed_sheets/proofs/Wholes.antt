-- A whole typed behind its parts, which are readings: one, two or three of them.
-- Assumes nothing.
use mathlib.Core.Path.{◌≡◌, sym, subst, ◌∙◌}
use mathlib.Core.List.{List, [], ◌∷◌, ◌++◌}
use Prim.Native.Nat.{ℕ, ◌+◌, ◌-◌, ◌≤◌, ◌<◌}
use native.Mathlib.Omega.{arith}
use lib.ListN.{length}
use Rattle.trace.specs.declared.Mode.TheVariants.{Watched as watched, Enforced as enforced}
use Rattle.syntax.specs.Types.{type_at, type_node}
use Rattle.syntax.specs.declared.Node.{Node}
use Rattle.syntax.specs.declared.NodeType.{NodeType}
use Rattle.syntax.specs.declared.NodeType.TheVariants.{Formula as FormulaType}
use Rattle.syntax.specs.declared.Sheet.{Sheet}
use Rattle.grammar.specs.Words.{Word}
use Rattle.grammar.specs.Grammar.{Reading, Reads}
use Rattle.grammar.specs.Nodes.{over_one, over_two, over_three, nodes_of}
use Rattle.grammar.specs.declared.Category.{Category}
use Rattle.grammar.specs.declared.Category.TheVariants.{Text, Watched, Enforced, Formula, Number, End}
use Rattle.parsed_sheets.proofs.Each.{front, back}
use Rattle.grammar.proofs.Sizes.{HasNodes, some-node, length-one, length_two, length_three}
use Rattle.parsed_sheets.proofs.Meanings.{Stand}
use Rattle.parsed_sheets.proofs.Bounds.{IsPolicy, Found}
use Rattle.parsed_sheets.proofs.Blocks.{NoSpare, Fit, Runs, last, behind}

-- What the last node of a reading of so many nodes has for its type.
abbrev pub Has : (c : Category) → Reading c → ℕ → NodeType → Type 0
Has Text rule size t = IsPolicy rule.mode rule.policy size t
Has Watched p size t = IsPolicy watched p size t
Has Enforced p size t = IsPolicy enforced p size t
Has Formula f size t = t ≡ FormulaType
Has Number k size t = Unit {0}
Has End x size t = Unit {0}

-- Where a sheet has the nodes of a reading from n on, they fit.
abbrev pub TypedAt : Sheet → (c : Category) → ℕ → Reading c → Type 0
TypedAt sheet c n x = Stand sheet n (nodes_of c n x) → n + length (nodes_of c n x) ≤ sheet.count → Runs sheet n (nodes_of c n x) (Has c x (length (nodes_of c n x)))

-- the type of a part stays while the nodes behind it are typed
still : (sheet : Sheet) (n : ℕ) (c : Category) (x : Reading c) → HasNodes c → {types : List NodeType}
    (f : Fit sheet n (nodes_of c n x) (Has c x (length (nodes_of c n x))) types) (after : List NodeType)
    → ((i : ℕ) → i < n + length (nodes_of c n x) → type_at after i ≡ type_at f.after i) → Has c x (length (nodes_of c n x)) (type_at after (n + length (nodes_of c n x) - 1))
still sheet n c x h f after kept =
    let s = some-node c h n x in
    subst (Has c x (length (nodes_of c n x))) (sym (kept (n + length (nodes_of c n x) - 1) (omega arith))) f.has

module _ (sheet : Sheet) (all : NoSpare sheet) (n : ℕ) {c : Category} {us : List Word} {x : Reading c} (r : Reads c us x) (h : HasNodes c) (p : TypedAt sheet c n x) where
  abbrev a : List Node
  a = nodes_of c n x

  abbrev n₁ : ℕ
  n₁ = n + length a

  pub one : (whole : ℕ → Node) {H : NodeType → Type 0}
      → (length (over_one n a whole) ≡ length a + 1 → length (over_one n a whole) ≤ 64 → (types : ℕ → NodeType) (i : ℕ) → Has c x (length a) (types i)
      → Found H (type_node (whole i) types))
      → Stand sheet n (over_one n a whole) → n + length (over_one n a whole) ≤ sheet.count → Runs sheet n (over_one n a whole) H
  one whole found s small types t =
      let w = whole (n₁ - 1) in
      let e = length-one a w in
      behind sheet n a (w ∷ []) (p (front _ n a (w ∷ []) s) (omega arith) types t)
      (λ f.
      last sheet all n₁ w (omega arith) (back _ n a (w ∷ []) s).0 f.typed (found e (omega (arith, all.few)) (type_at f.after) (n₁ - 1) f.has))

  module _ {d : Category} {vs : List Word} {y : Reading d} (r₁ : Reads d vs y) (h₁ : HasNodes d) (p₁ : TypedAt sheet d n₁ y) where
    abbrev b : List Node
    b = nodes_of d n₁ y

    abbrev n₂ : ℕ
    n₂ = n₁ + length b

    pub two : (whole : ℕ → ℕ → Node) {H : NodeType → Type 0}
        → (length (over_two n a b whole) ≡ length a + length b + 1 → length (over_two n a b whole) ≤ 64 → (types : ℕ → NodeType) (i j : ℕ)
        → Has c x (length a) (types i) → Has d y (length b) (types j) → Found H (type_node (whole i j) types))
        → Stand sheet n (over_two n a b whole) → n + length (over_two n a b whole) ≤ sheet.count → Runs sheet n (over_two n a b whole) H
    two whole found s small types t =
        let w = whole (n₁ - 1) (n₂ - 1) in
        let e = length_two a b w in
        let s₁ = back _ n a (b ++ (w ∷ [])) s in
        behind sheet n a (b ++ (w ∷ [])) (p (front _ n a (b ++ (w ∷ [])) s) (omega arith) types t)
        (λ f.
        behind sheet n₁ b (w ∷ []) (p₁ (front _ n₁ b (w ∷ []) s₁) (omega arith) f.after f.typed)
        (λ g.
        last sheet all n₂ w (omega arith) (back _ n₁ b (w ∷ []) s₁).0 g.typed
        (found e (omega (arith, all.few)) (type_at g.after) (n₁ - 1) (n₂ - 1) (still sheet n c x h f g.after g.kept) g.has)))

    module _ {e : Category} {ws : List Word} {z : Reading e} (r₂ : Reads e ws z) (h₂ : HasNodes e) (p₂ : TypedAt sheet e n₂ z) where
      abbrev v : List Node
      v = nodes_of e n₂ z

      abbrev n₃ : ℕ
      n₃ = n₂ + length v

      pub three : (whole : ℕ → ℕ → ℕ → Node) {H : NodeType → Type 0}
          → (length (over_three n a b v whole) ≡ length a + length b + length v + 1 → length (over_three n a b v whole) ≤ 64 → (types : ℕ → NodeType) (i j k : ℕ)
          → Has c x (length a) (types i) → Has d y (length b) (types j) → Has e z (length v) (types k) → Found H (type_node (whole i j k) types))
          → Stand sheet n (over_three n a b v whole) → n + length (over_three n a b v whole) ≤ sheet.count → Runs sheet n (over_three n a b v whole) H
      three whole found s small types t =
          let w = whole (n₁ - 1) (n₂ - 1) (n₃ - 1) in
          let l = length_three a b v w in
          let s₁ = back _ n a (b ++ (v ++ (w ∷ []))) s in
          let s₂ = back _ n₁ b (v ++ (w ∷ [])) s₁ in
          behind sheet n a (b ++ (v ++ (w ∷ []))) (p (front _ n a (b ++ (v ++ (w ∷ []))) s) (omega arith) types t)
          (λ f.
          behind sheet n₁ b (v ++ (w ∷ [])) (p₁ (front _ n₁ b (v ++ (w ∷ [])) s₁) (omega arith) f.after f.typed)
          (λ g.
          behind sheet n₂ v (w ∷ []) (p₂ (front _ n₂ v (w ∷ []) s₂) (omega arith) g.after g.typed)
          (λ k.
          last sheet all n₃ w (omega arith) (back _ n₂ v (w ∷ []) s₂).0 k.typed
          (found l (omega (arith, all.few)) (type_at k.after) (n₁ - 1) (n₂ - 1) (n₃ - 1)
          (still sheet n c x h f k.after (λ i m. k.kept i (omega arith) ∙ g.kept i m)) (still sheet n₁ d y h₁ g k.after k.kept) k.has))))
