-- The part that is shown is the node's policy: for a sheet that is judged sound, the words of a policy node's text are those of its policy, and
-- their one reading is that policy.
-- Assumes nothing.
use mathlib.Core.Path.{◌≡◌, refl, sym, ap, subst, ◌∙◌}
use mathlib.Core.List.{List, [], ◌∷◌, ◌++◌, append-nil}
use Prim.Native.Nat.{ℕ, zero, suc, ◌≤◌, ◌<◌}
use native.Mathlib.Nat.{lt-suc_self}
use native.Mathlib.Omega.{arith}
use Rattle.trace.specs.declared.Mode.{Mode}
use Rattle.policy.specs.declared.Bound.{Bound}
use Rattle.syntax.specs.Nodes.{node_of}
use Rattle.syntax.specs.Shape.{Shape, leaf, unary, binary, ternary, shape_of, with_parts, AllOf}
use Rattle.syntax.specs.Formed.{Formed}
use Rattle.syntax.specs.Types.{type_at}
use Rattle.syntax.specs.Meaning.{Meaning, formula, policy, as_policy, meaning_from, meaning_at, meanings, node_policy}
use Rattle.syntax.specs.declared.NodeType.{NodeType}
use Rattle.syntax.specs.declared.NodeType.TheVariants.{Unused, Formula, Policy}
use Rattle.syntax.specs.declared.Sheet.{Sheet}
use Rattle.syntax.proofs.EqualParts.{equal-parts}
use Rattle.syntax.proofs.NodeTypes.{EachPart, FormulaBefore, PolicyBefore}
use Rattle.typing.specs.Typed.{SoundSheet, Agrees}
use Rattle.typing.proofs.Sound.{typed-policy, judged-sound}
use Rattle.typing.proofs.Meanings.{node_meaning, meaning-of, meaning-stays, node-parts, agrees, policy-of}
use Rattle.sheet_layout.specs.Layout.{field}
use Rattle.sheet_reading.specs.ReadFrom.{ReadFrom}
use Rattle.sheet_judge.specs.JudgedFrom.{JudgedFrom}
use Rattle.grammar.specs.Words.{Word, words_of}
use Rattle.grammar.specs.Grammar.{TextRule, Reads}
use Rattle.grammar.specs.declared.Category.TheVariants.{Text}
use Rattle.grammar.proofs.OneReading.{one-reading}
use Rattle.part_words.specs.Parts.{node_parts, part_text}
use Rattle.part_laws.specs.Spelled.{policy_words, policy_size, PolicyInRange, first_word, spaced_words}
use Rattle.part_laws.proofs.Spelled.{spelled, as-text}
use Rattle.part_laws.proofs.Spaced.{spaced-append, policy-spaced}
use Rattle.part_laws.proofs.Unfolded.{Unfolded, none, more, unfolded-as, unfolded-then, unfolded-text}
use Rattle.part_laws.proofs.Shapes.{meaning_words, meaning_size, MeaningInRange, head_words, part_list, part_words, part_sizes, AsFormula, AsPolicy, whole-said, each_all, all_map, whole_in_range}
use Rattle.part_laws.proofs.ReadKinds.{says-node}

-- a node's meaning is made of those of its parts
module _ (sheet : Sheet) (formed : Formed sheet) where
  meaning-from : (n : ℕ) → n < sheet.count → node_meaning sheet n ≡ meaning_from (with_parts (node_meaning sheet) (shape_of (node_of sheet n)))
  meaning-from n h =
      meaning-of sheet n
      ∙ ap meaning_from
      (equal-parts (meaning_at (meanings sheet.nodes n)) (node_meaning sheet) (shape_of (node_of sheet n))
      (all_map (λ i l. meaning-stays sheet n i l) (shape_of (node_of sheet n)) (formed.parts n h)))

  in-range-below : (m n : ℕ) → n < m → n < sheet.count → MeaningInRange (node_meaning sheet n)
  in-range-below zero n h g = absurd (omega arith)
  in-range-below (suc m) n h g =
      rw (meaning-from n g)
      (whole_in_range (node_meaning sheet) (shape_of (node_of sheet n)) (formed.arguments n g)
      (all_map (λ i l. in-range-below m i (omega arith) (omega arith)) (shape_of (node_of sheet n)) (formed.parts n g)))

  policy-range : (x : Meaning) → MeaningInRange x → PolicyInRange (as_policy x)
  policy-range (formula f) r = r
  policy-range (policy p) r = r

  pub policy-in-range : (n : ℕ) → n < sheet.count → PolicyInRange (node_policy sheet n)
  policy-in-range n h = policy-range (node_meaning sheet n) (in-range-below (suc n) n (lt-suc_self n) h)

-- a meaning that agrees with its type is a formula or a policy, as it says
agrees-formula : (t : NodeType) (x : Meaning) → Agrees t x → t ≡ Formula → AsFormula x
agrees-formula Unused x a e = absurd a
agrees-formula Formula (formula f) a e = record { words = refl; size = refl }
agrees-formula Formula (policy p) a e = absurd a
agrees-formula (Policy m k) x a e = absurd (let z : ◌≡◌ {A = ℕ} 0 1 = cc in omega arith)

agrees-policy : (t : NodeType) (x : Meaning) → Agrees t x → {m : Mode} {k : Bound} → t ≡ Policy m k → AsPolicy x
agrees-policy Unused x a e = absurd a
agrees-policy Formula x a e = absurd (let z : ◌≡◌ {A = ℕ} 0 1 = cc in omega arith)
agrees-policy (Policy m k) (formula f) a e = absurd a
agrees-policy (Policy m k) (policy p) a e = record { words = refl; size = refl }

-- a type that is a formula, or a policy, is one
typed-formula : {t : NodeType} → t ≡ Formula → t ≡ Unused → ⊥
typed-formula e u = let z : ◌≡◌ {A = ℕ} 0 1 = cc in omega arith

module _ (bytes : List ℕ) {mode : Mode} (sheet : Sheet) (types : List NodeType) (read : ReadFrom bytes sheet) (sound : SoundSheet mode sheet types) where
  abbrev words : ℕ → List Word
  words n = meaning_words (node_meaning sheet n)

  abbrev size : ℕ → ℕ
  size n = meaning_size (node_meaning sheet n)

  -- node n with its parts is so many nodes, and has the text of its meaning
  abbrev Unfolds : ℕ → Type 0
  Unfolds n = Unfolded bytes (n ∷ []) (size n) (spaced_words (words n))

  unfold-parts : (shape : Shape ℕ) → AllOf Unfolds shape
      → Unfolded bytes (part_list shape) (part_sizes (with_parts size shape)) (spaced_words (part_words (with_parts words shape)))
  unfold-parts (leaf k) h = none
  unfold-parts (unary k a) h = h
  unfold-parts (binary k a b) h = unfolded-as refl (sym (spaced-append (words a) (words b))) (unfolded-then h.0 h.1)
  unfold-parts (ternary k a b c) h =
      unfolded-as refl (sym (spaced-append (words a) (words b ++ words c) ∙ ap (λ (l : List ℕ). spaced_words (words a) ++ l) (spaced-append (words b) (words c))))
      (unfolded-then h.0 (unfolded-then h.1 h.2))

  module _ (n : ℕ) (below : n < sheet.count) (used : type_at types n ≡ Unused → ⊥) where
    abbrev shape : Shape ℕ
    shape = shape_of (node_of sheet n)

    parts : EachPart (FormulaBefore (type_at types) n) (PolicyBefore (type_at types) n) (node_of sheet n)
    parts = node-parts sheet types sound n below used

    as-formula : (i : ℕ) → FormulaBefore (type_at types) n i → AsFormula (node_meaning sheet i)
    as-formula i f =
        let l = f.before in agrees-formula (type_at types i) (node_meaning sheet i) (agrees sheet types sound i (omega arith) (typed-formula f.is)) f.is

    as-policy : (i : ℕ) → PolicyBefore (type_at types) n i → AsPolicy (node_meaning sheet i)
    as-policy i p =
        let l = p.before in agrees-policy (type_at types i) (node_meaning sheet i) (agrees sheet types sound i (omega arith) (typed-policy p.is)) p.is

    unfold-node : ((i : ℕ) → i < n → (type_at types i ≡ Unused → ⊥) → Unfolds i) → Unfolds n
    unfold-node ih =
        let said = says-node (field bytes n 0) (field bytes n 1) (field bytes n 2) (field bytes n 3) (field bytes n 4) n (node_of sheet n) (read.nodes n below) in
        let m = meaning-from sheet sound.formed n below in
        let w = whole-said (node_meaning sheet) as-formula as-policy (node_of sheet n) parts in
        let u = unfold-parts shape (each_all (λ i f. ih i f.before (typed-formula f.is)) (λ i p. ih i p.before (typed-policy p.is)) (node_of sheet n) parts) in
        let own-parts : part_list shape ≡ node_parts bytes n ++ [] = sym (append-nil (node_parts bytes n) ∙ said.1) in
        let v = more {node = n} {stack = []} (subst (λ (l : List ℕ). Unfolded bytes l (part_sizes (with_parts size shape)) (spaced_words (part_words (with_parts words shape)))) own-parts u) in
        unfolded-as (sym (ap meaning_size m ∙ w.1))
        (ap (λ (l : List ℕ). l ++ spaced_words (part_words (with_parts words shape))) said.0
        ∙ sym (spaced-append (head_words shape) (part_words (with_parts words shape)))
        ∙ ap spaced_words (sym (ap meaning_words m ∙ w.0)))
        v

  unfold-below : (m n : ℕ) → n < m → n < sheet.count → (type_at types n ≡ Unused → ⊥) → Unfolds n
  unfold-below zero n h g t = absurd (omega arith)
  unfold-below (suc m) n h g t = unfold-node n g t (λ i l. unfold-below m i (omega arith) (omega arith))

-- A sheet that is judged sound, in its bytes, and a node that is a policy.
module _ (bytes : List ℕ) {mode : Mode} (sheet : Sheet) (types : List NodeType) (judged : JudgedFrom bytes mode sheet types)
    (n : ℕ) (below : n < sheet.count) {m : Mode} {k : Bound} (is : type_at types n ≡ Policy m k) where
  abbrev sound : SoundSheet mode sheet types
  sound = judged-sound sheet judged.judged judged.formed

  pub means-policy : AsPolicy (node_meaning sheet n)
  means-policy = agrees-policy (type_at types n) (node_meaning sheet n) (agrees sheet types sound n below (typed-policy is)) is

  -- Its policy has at most 64 nodes where none is shared.
  module _ (small : policy_size (node_policy sheet n) ≤ 64) where
    -- Its text is the words of the policy, with a space before each.
    pub part-text : part_text bytes n ≡ spaced_words (policy_words (node_policy sheet n))
    part-text =
        unfolded-text (unfold-below bytes sheet types judged.read sound (suc n) n (lt-suc_self n) below (typed-policy is)) 64 (omega (arith, means-policy.size))
        ∙ ap spaced_words means-policy.words

    pub part-spelled : words_of (part_text bytes n) ≡ policy_words (node_policy sheet n)
    part-spelled = ap words_of part-text ∙ policy-spaced (node_policy sheet n)

    -- They are in the language behind the word of its mode, and say that policy and no other.
    pub part-reads : Reads Text (first_word m ∷ words_of (part_text bytes n)) (record { mode = m; policy = node_policy sheet n })
    part-reads =
        rw part-spelled
        (as-text m (node_policy sheet n) (spelled (node_policy sheet n) (policy-of sheet types sound n below is) (policy-in-range sheet judged.formed n below)))

    pub part-alone : {rule : TextRule} → Reads Text (first_word m ∷ words_of (part_text bytes n)) rule → rule ≡ record { mode = m; policy = node_policy sheet n }
    part-alone r = one-reading r part-reads
