-- A node's words by its shape: those of its kind, then those of its parts. They are the words of its meaning where its parts are formulas and
-- policies as its kind asks.
-- Assumes nothing.
use mathlib.Core.Path.{◌≡◌, refl}
use mathlib.Core.List.{List, [], ◌∷◌, ◌++◌}
use Prim.Native.Nat.{ℕ, suc, ◌+◌}
use Rattle.syntax.specs.Shape.{True, False, Proposition, Count, Negation, Now, Holds, Not, Eventually, Always, Conjunction, Disjunction, And, Or, BeforeMinus, BeforePlus, AfterMinus, AfterPlus, Ignoring, Fulfilling, LeafKind, UnaryKind, BinaryKind, Shape, leaf, unary, binary, ternary, shape_of, with_parts, AllOf}
use Rattle.syntax.specs.Formed.{ShapeFits}
use Rattle.syntax.specs.Meaning.{Meaning, formula, policy, as_formula, as_policy, meaning_from}
use Rattle.syntax.specs.declared.Node.{Node}
use Rattle.syntax.specs.declared.Node.TheVariants as node
use Rattle.syntax.proofs.NodeTypes.{EachPart}
use Rattle.grammar.specs.Words.{Word}
use Rattle.grammar.specs.Spelling.{word, number_word, proposition_word}
use Rattle.part_laws.specs.Spelled.{formula_words, policy_words, formula_size, policy_size, FormulaInRange, PolicyInRange}

-- what is said of a meaning
abbrev pub meaning_words : Meaning → List Word
meaning_words (formula f) = formula_words f
meaning_words (policy p) = policy_words p

abbrev pub meaning_size : Meaning → ℕ
meaning_size (formula f) = formula_size f
meaning_size (policy p) = policy_size p

abbrev pub MeaningInRange : Meaning → Type 0
MeaningInRange (formula f) = FormulaInRange f
MeaningInRange (policy p) = PolicyInRange p

-- the words of a kind
abbrev leaf_words : LeafKind → List Word
leaf_words True = word "true" ∷ []
leaf_words False = word "false" ∷ []
leaf_words (Proposition p) = proposition_word p ∷ []
leaf_words (Count k) = word "count" ∷ number_word k ∷ []

abbrev unary_word : UnaryKind → Word
unary_word Negation = word "not"
unary_word Now = word "now"
unary_word Holds = word "holds"
unary_word Not = word "not"
unary_word Eventually = word "eventually"
unary_word Always = word "always"

abbrev binary_word : BinaryKind → Word
binary_word Conjunction = word "and"
binary_word Disjunction = word "or"
binary_word And = word "and"
binary_word Or = word "or"
binary_word BeforeMinus = word "before"
binary_word BeforePlus = word "before"
binary_word AfterMinus = word "after"
binary_word AfterPlus = word "after"
binary_word Ignoring = word "ignoring"

abbrev pub head_words : {P : Type 0} → Shape P → List Word
head_words (leaf k) = leaf_words k
head_words (unary k a) = unary_word k ∷ []
head_words (binary k a b) = binary_word k ∷ []
head_words (ternary (Fulfilling k) a b c) = word "fulfilling" ∷ number_word k ∷ []

-- the parts one after the other, their words, and how many nodes they are
abbrev pub part_list : {P : Type 0} → Shape P → List P
part_list (leaf k) = []
part_list (unary k a) = a ∷ []
part_list (binary k a b) = a ∷ b ∷ []
part_list (ternary k a b c) = a ∷ b ∷ c ∷ []

abbrev pub part_words : Shape (List Word) → List Word
part_words (leaf k) = []
part_words (unary k a) = a
part_words (binary k a b) = a ++ b
part_words (ternary k a b c) = a ++ (b ++ c)

abbrev pub part_sizes : Shape ℕ → ℕ
part_sizes (leaf k) = 0
part_sizes (unary k a) = a
part_sizes (binary k a b) = a + b
part_sizes (ternary k a b c) = a + (b + c)

-- a meaning that is taken as a formula, or as a policy, is one
pub record AsFormula (x : Meaning) : Type 0 where
  pub words : meaning_words x ≡ formula_words (as_formula x)
  pub size : meaning_size x ≡ formula_size (as_formula x)

pub record AsPolicy (x : Meaning) : Type 0 where
  pub words : meaning_words x ≡ policy_words (as_policy x)
  pub size : meaning_size x ≡ policy_size (as_policy x)

module _ {F P : ℕ → Type 0} (means : ℕ → Meaning) (f : (i : ℕ) → F i → AsFormula (means i)) (p : (i : ℕ) → P i → AsPolicy (means i)) where
  pub whole-said : (n : Node) → EachPart F P n
      → (meaning_words (meaning_from (with_parts means (shape_of n))) ≡ head_words (shape_of n) ++ part_words (with_parts (λ i. meaning_words (means i)) (shape_of n)))
      × (meaning_size (meaning_from (with_parts means (shape_of n))) ≡ suc (part_sizes (with_parts (λ i. meaning_size (means i)) (shape_of n))))
  whole-said node.True h = (refl, refl)
  whole-said node.False h = (refl, refl)
  whole-said (node.Proposition k) h = (refl, refl)
  whole-said (node.Negation a) h = let x = f a h in (rw x.words, rw x.size)
  whole-said (node.Conjunction a b) h = let x = f a h.0 in let y = f b h.1 in (rw (x.words, y.words), rw (x.size, y.size))
  whole-said (node.Disjunction a b) h = let x = f a h.0 in let y = f b h.1 in (rw (x.words, y.words), rw (x.size, y.size))
  whole-said (node.Now a) h = let x = f a h in (rw x.words, rw x.size)
  whole-said (node.Holds a) h = let x = f a h in (rw x.words, rw x.size)
  whole-said (node.Count k) h = (refl, refl)
  whole-said (node.Not a) h = let x = p a h in (rw x.words, rw x.size)
  whole-said (node.And a b) h = let x = p a h.0 in let y = p b h.1 in (rw (x.words, y.words), rw (x.size, y.size))
  whole-said (node.Or a b) h = let x = p a h.0 in let y = p b h.1 in (rw (x.words, y.words), rw (x.size, y.size))
  whole-said (node.Eventually a) h = let x = p a h in (rw x.words, rw x.size)
  whole-said (node.Always a) h = let x = p a h in (rw x.words, rw x.size)
  whole-said (node.BeforeMinus a b) h = let x = p a h.0 in let y = p b h.1 in (rw (x.words, y.words), rw (x.size, y.size))
  whole-said (node.BeforePlus a b) h = let x = p a h.0 in let y = p b h.1 in (rw (x.words, y.words), rw (x.size, y.size))
  whole-said (node.AfterMinus a b) h = let x = p a h.0 in let y = p b h.1 in (rw (x.words, y.words), rw (x.size, y.size))
  whole-said (node.AfterPlus a b) h = let x = p a h.0 in let y = p b h.1 in (rw (x.words, y.words), rw (x.size, y.size))
  whole-said (node.Fulfilling k a b c) h =
      let x = p a h.0 in
      let y = p b h.1 in
      let z = p c h.2 in
      (rw (x.words, y.words, z.words), rw (x.size, y.size, z.size))
  whole-said (node.Ignoring a b) h = let x = f a h.0 in let y = p b h.1 in (rw (x.words, y.words), rw (x.size, y.size))

-- what holds of each part that is a formula, and of each that is a policy, holds of all
pub each_all : {F P Q : ℕ → Type 0} → ((i : ℕ) → F i → Q i) → ((i : ℕ) → P i → Q i) → (n : Node) → EachPart F P n → AllOf Q (shape_of n)
each_all f p node.True h = tt
each_all f p node.False h = tt
each_all f p (node.Proposition k) h = tt
each_all f p (node.Negation a) h = f a h
each_all f p (node.Conjunction a b) h = (f a h.0, f b h.1)
each_all f p (node.Disjunction a b) h = (f a h.0, f b h.1)
each_all f p (node.Now a) h = f a h
each_all f p (node.Holds a) h = f a h
each_all f p (node.Count k) h = tt
each_all f p (node.Not a) h = p a h
each_all f p (node.And a b) h = (p a h.0, p b h.1)
each_all f p (node.Or a b) h = (p a h.0, p b h.1)
each_all f p (node.Eventually a) h = p a h
each_all f p (node.Always a) h = p a h
each_all f p (node.BeforeMinus a b) h = (p a h.0, p b h.1)
each_all f p (node.BeforePlus a b) h = (p a h.0, p b h.1)
each_all f p (node.AfterMinus a b) h = (p a h.0, p b h.1)
each_all f p (node.AfterPlus a b) h = (p a h.0, p b h.1)
each_all f p (node.Fulfilling k a b c) h = (p a h.0, p b h.1, p c h.2)
each_all f p (node.Ignoring a b) h = (f a h.0, p b h.1)

-- the same of each part over something else
pub all_map : {A : Type 0} {Q R : A → Type 0} → ((i : A) → Q i → R i) → (shape : Shape A) → AllOf Q shape → AllOf R shape
all_map f (leaf k) h = tt
all_map f (unary k a) h = f a h
all_map f (binary k a b) h = (f a h.0, f b h.1)
all_map f (ternary k a b c) h = (f a h.0, f b h.1, f c h.2)

-- numbers that are in range
in-formula : (x : Meaning) → MeaningInRange x → FormulaInRange (as_formula x)
in-formula (formula f) h = h
in-formula (policy p) h = tt

in_policy : (x : Meaning) → MeaningInRange x → PolicyInRange (as_policy x)
in_policy (formula f) h = h
in_policy (policy p) h = h

pub whole_in_range : {A : Type 0} (means : A → Meaning) (shape : Shape A) → ShapeFits shape → AllOf (λ i. MeaningInRange (means i)) shape
    → MeaningInRange (meaning_from (with_parts means shape))
whole_in_range m (leaf True) s h = tt
whole_in_range m (leaf False) s h = tt
whole_in_range m (leaf (Proposition p)) s h = s
whole_in_range m (leaf (Count k)) s h = s
whole_in_range m (unary Negation a) s h = in-formula (m a) h
whole_in_range m (unary Now a) s h = in-formula (m a) h
whole_in_range m (unary Holds a) s h = in-formula (m a) h
whole_in_range m (unary Not a) s h = in_policy (m a) h
whole_in_range m (unary Eventually a) s h = in_policy (m a) h
whole_in_range m (unary Always a) s h = in_policy (m a) h
whole_in_range m (binary Conjunction a b) s h = (in-formula (m a) h.0, in-formula (m b) h.1)
whole_in_range m (binary Disjunction a b) s h = (in-formula (m a) h.0, in-formula (m b) h.1)
whole_in_range m (binary And a b) s h = (in_policy (m a) h.0, in_policy (m b) h.1)
whole_in_range m (binary Or a b) s h = (in_policy (m a) h.0, in_policy (m b) h.1)
whole_in_range m (binary BeforeMinus a b) s h = (in_policy (m a) h.0, in_policy (m b) h.1)
whole_in_range m (binary BeforePlus a b) s h = (in_policy (m a) h.0, in_policy (m b) h.1)
whole_in_range m (binary AfterMinus a b) s h = (in_policy (m a) h.0, in_policy (m b) h.1)
whole_in_range m (binary AfterPlus a b) s h = (in_policy (m a) h.0, in_policy (m b) h.1)
whole_in_range m (binary Ignoring a b) s h = (in-formula (m a) h.0, in_policy (m b) h.1)
whole_in_range m (ternary (Fulfilling k) a b c) s h = (s.0, s.1, in_policy (m a) h.0, in_policy (m b) h.1, in_policy (m c) h.2)
