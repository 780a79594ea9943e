-- A policy, and an action formula, as the words that say it. `spelled` (proofs/Spelled.antt): a typed one is read back from them.
-- Assumes nothing.
use Rattle.std.specs.Prelude.{List, [], ◌∷◌, ◌++◌, ℕ, suc, ◌+◌, ◌≤◌}
use Rattle.trace.specs.declared.Mode.{Mode}
use Rattle.trace.specs.declared.Mode.TheVariants.{Watched as watched, Enforced as enforced}
use Rattle.policy.specs.Formula.{Formula as ActionFormula, always-true, always-false, proposition, negation, conjunction, disjunction}
use Rattle.policy.specs.Policy.{Policy, now, holds-first, count, not-p, and-p, or-p, eventually, always, before-, before+, after-, after+, fulfilling, ignoring}
use Rattle.grammar.specs.Words.{Word}
use Rattle.grammar.specs.Spelling.{word, number_word, proposition_word}
use Rattle.grammar.specs.Grammar.{Reads}
use Rattle.grammar.specs.declared.Category.TheVariants.{Watched, Enforced}

abbrev pub formula_words : ActionFormula → List Word
formula_words always-true = word "true" ∷ []
formula_words always-false = word "false" ∷ []
formula_words (proposition p) = proposition_word p ∷ []
formula_words (negation f) = word "not" ∷ formula_words f
formula_words (conjunction f g) = word "and" ∷ formula_words f ++ formula_words g
formula_words (disjunction f g) = word "or" ∷ formula_words f ++ formula_words g

abbrev pub policy_words : Policy → List Word
policy_words (now f) = word "now" ∷ formula_words f
policy_words (holds-first f) = word "holds" ∷ formula_words f
policy_words (count k) = word "count" ∷ number_word k ∷ []
policy_words (not-p a) = word "not" ∷ policy_words a
policy_words (and-p a b) = word "and" ∷ policy_words a ++ policy_words b
policy_words (or-p a b) = word "or" ∷ policy_words a ++ policy_words b
policy_words (eventually a) = word "eventually" ∷ policy_words a
policy_words (always a) = word "always" ∷ policy_words a
policy_words (before- a b) = word "before" ∷ policy_words a ++ policy_words b
policy_words (before+ a b) = word "before" ∷ policy_words a ++ policy_words b
policy_words (after- a b) = word "after" ∷ policy_words a ++ policy_words b
policy_words (after+ a b) = word "after" ∷ policy_words a ++ policy_words b
policy_words (fulfilling k a b c) = word "fulfilling" ∷ number_word k ∷ policy_words a ++ (policy_words b ++ policy_words c)
policy_words (ignoring f b) = word "ignoring" ∷ formula_words f ++ policy_words b

-- The numbers are in range: a proposition is 0 to 15, a count 1 to 60.
abbrev pub FormulaInRange : ActionFormula → Type 0
FormulaInRange always-true = Unit {0}
FormulaInRange always-false = Unit {0}
FormulaInRange (proposition p) = p ≤ 15
FormulaInRange (negation f) = FormulaInRange f
FormulaInRange (conjunction f g) = FormulaInRange f × FormulaInRange g
FormulaInRange (disjunction f g) = FormulaInRange f × FormulaInRange g

abbrev pub PolicyInRange : Policy → Type 0
PolicyInRange (now f) = FormulaInRange f
PolicyInRange (holds-first f) = FormulaInRange f
PolicyInRange (count k) = (1 ≤ k) × (k ≤ 60)
PolicyInRange (not-p a) = PolicyInRange a
PolicyInRange (and-p a b) = PolicyInRange a × PolicyInRange b
PolicyInRange (or-p a b) = PolicyInRange a × PolicyInRange b
PolicyInRange (eventually a) = PolicyInRange a
PolicyInRange (always a) = PolicyInRange a
PolicyInRange (before- a b) = PolicyInRange a × PolicyInRange b
PolicyInRange (before+ a b) = PolicyInRange a × PolicyInRange b
PolicyInRange (after- a b) = PolicyInRange a × PolicyInRange b
PolicyInRange (after+ a b) = PolicyInRange a × PolicyInRange b
PolicyInRange (fulfilling k a b c) = (1 ≤ k) × (k ≤ 60) × PolicyInRange a × PolicyInRange b × PolicyInRange c
PolicyInRange (ignoring f b) = FormulaInRange f × PolicyInRange b

-- How many nodes it is, where none is shared.
abbrev pub formula_size : ActionFormula → ℕ
formula_size always-true = 1
formula_size always-false = 1
formula_size (proposition p) = 1
formula_size (negation f) = suc (formula_size f)
formula_size (conjunction f g) = suc (formula_size f + formula_size g)
formula_size (disjunction f g) = suc (formula_size f + formula_size g)

abbrev pub policy_size : Policy → ℕ
policy_size (now f) = suc (formula_size f)
policy_size (holds-first f) = suc (formula_size f)
policy_size (count k) = 1
policy_size (not-p a) = suc (policy_size a)
policy_size (and-p a b) = suc (policy_size a + policy_size b)
policy_size (or-p a b) = suc (policy_size a + policy_size b)
policy_size (eventually a) = suc (policy_size a)
policy_size (always a) = suc (policy_size a)
policy_size (before- a b) = suc (policy_size a + policy_size b)
policy_size (before+ a b) = suc (policy_size a + policy_size b)
policy_size (after- a b) = suc (policy_size a + policy_size b)
policy_size (after+ a b) = suc (policy_size a + policy_size b)
policy_size (fulfilling k a b c) = suc (policy_size a + (policy_size b + policy_size c))
policy_size (ignoring f b) = suc (formula_size f + policy_size b)

-- Words of a policy of a mode, and its reading.
abbrev pub ReadsInMode : Mode → List Word → Policy → Type 0
ReadsInMode watched ws p = Reads Watched ws p
ReadsInMode enforced ws p = Reads Enforced ws p

-- The word that a text of a mode begins with.
abbrev pub first_word : Mode → Word
first_word watched = word "watch"
first_word enforced = word "enforce"

-- Words as a text, with a space before each.
abbrev pub spaced_words : List Word → List ℕ
spaced_words [] = []
spaced_words (w ∷ ws) = 32 ∷ (w ++ spaced_words ws)
