-- The words of a policy with a space before each are its words again.
-- Assumes nothing.
use mathlib.Core.Path.{◌≡◌, refl, ap, ◌∙◌}
use mathlib.Core.Bool.{Bool, true, false, cond, not, ◌&&◌}
use mathlib.Core.List.{List, [], ◌∷◌, ◌++◌, append_assoc}
use Prim.Native.Nat.{ℕ, ◌+◌, ◌/◌, ◌%◌}
use native.Mathlib.Omega.{arith}
use lib.Dec.{ltb}
use borrow.Author.Tests.{not-true as is_false, ne_eqb}
use Rattle.base.proofs.Truths.{not-true, and-true, both_true}
use Rattle.policy.specs.Formula.{Formula as ActionFormula, always-true, always-false, proposition, negation, conjunction, disjunction}
use Rattle.policy.specs.Policy.{Policy, now, holds-first, count, not-p, and-p, or-p, eventually, always, before-, before+, after-, after+, fulfilling, ignoring}
use Rattle.grammar.specs.Words.{Word, is_blank, words_of, Solid, Ended}
use Rattle.grammar.specs.Spelling.{number_word}
use Rattle.grammar.proofs.Parted.{word-ahead}
use Rattle.part_laws.specs.Spelled.{formula_words, policy_words, spaced_words}

-- words of one byte or more, with no blank in them
abbrev no_blank : Word → Bool
no_blank [] = true
no_blank (byte ∷ rest) = not (is_blank byte) && no_blank rest

abbrev is_word : Word → Bool
is_word [] = false
is_word (byte ∷ rest) = no_blank (byte ∷ rest)

abbrev all_words : List Word → Bool
all_words [] = true
all_words (w ∷ ws) = is_word w && all_words ws

solid : (w : Word) → no_blank w ≡ true → Solid w
solid [] e = tt
solid (byte ∷ rest) e = let h = and-true (not (is_blank byte)) (no_blank rest) e in (is_false (is_blank byte) h.0, solid rest h.1)

ended : (ws : List Word) → Ended (spaced_words ws)
ended [] = tt
ended (w ∷ ws) = refl

words-spaced : (ws : List Word) → all_words ws ≡ true → words_of (spaced_words ws) ≡ ws
words-spaced [] e = refl
words-spaced ([] ∷ ws) e = not-true e
words-spaced ((byte ∷ more) ∷ ws) e =
    let h = and-true (no_blank (byte ∷ more)) (all_words ws) e in
    word-ahead byte more (spaced_words ws) (solid (byte ∷ more) h.0) (ended ws) ∙ ap (λ (l : List Word). (byte ∷ more) ∷ l) (words-spaced ws h.1)

pub spaced-append : (us vs : List Word) → spaced_words (us ++ vs) ≡ spaced_words us ++ spaced_words vs
spaced-append [] vs = refl
spaced-append (u ∷ us) vs = ap (λ (l : List ℕ). 32 ∷ l) (ap (λ (l : List ℕ). u ++ l) (spaced-append us vs) ∙ rw (← append_assoc u (spaced_words us) (spaced_words vs)))

all_append : (us vs : List Word) → all_words us ≡ true → all_words vs ≡ true → all_words (us ++ vs) ≡ true
all_append [] vs p q = q
all_append (u ∷ us) vs p q = let h = and-true (is_word u) (all_words us) p in both_true h.0 (all_append us vs h.1 q)

-- digits are no blanks
no-blank : (d : ℕ) → not (is_blank (48 + d)) ≡ true
no-blank d = rw (ne_eqb (48 + d) 32 (λ z. omega arith), ne_eqb (48 + d) 10 (λ z. omega arith))

digits : (n : ℕ) → no_blank (number_word n) ≡ true
digits n = by (ltb n 10)
  where
    by : (t : Bool) → no_blank (cond t ((48 + n) ∷ []) ((48 + n / 10) ∷ (48 + n % 10) ∷ [])) ≡ true
    by true = both_true (no-blank n) refl
    by false = both_true (no-blank (n / 10)) (both_true (no-blank (n % 10)) refl)

number-word : (n : ℕ) → is_word (number_word n) ≡ true
number-word n = by (ltb n 10)
  where
    by : (t : Bool) → is_word (cond t ((48 + n) ∷ []) ((48 + n / 10) ∷ (48 + n % 10) ∷ [])) ≡ true
    by true = both_true (no-blank n) refl
    by false = both_true (no-blank (n / 10)) (both_true (no-blank (n % 10)) refl)

formula-words : (f : ActionFormula) → all_words (formula_words f) ≡ true
formula-words always-true = refl
formula-words always-false = refl
formula-words (proposition p) = both_true (digits p) refl
formula-words (negation f) = formula-words f
formula-words (conjunction f g) = all_append (formula_words f) (formula_words g) (formula-words f) (formula-words g)
formula-words (disjunction f g) = all_append (formula_words f) (formula_words g) (formula-words f) (formula-words g)

policy-words : (p : Policy) → all_words (policy_words p) ≡ true
policy-words (now f) = formula-words f
policy-words (holds-first f) = formula-words f
policy-words (count k) = both_true (number-word k) refl
policy-words (not-p a) = policy-words a
policy-words (and-p a b) = all_append (policy_words a) (policy_words b) (policy-words a) (policy-words b)
policy-words (or-p a b) = all_append (policy_words a) (policy_words b) (policy-words a) (policy-words b)
policy-words (eventually a) = policy-words a
policy-words (always a) = policy-words a
policy-words (before- a b) = all_append (policy_words a) (policy_words b) (policy-words a) (policy-words b)
policy-words (before+ a b) = all_append (policy_words a) (policy_words b) (policy-words a) (policy-words b)
policy-words (after- a b) = all_append (policy_words a) (policy_words b) (policy-words a) (policy-words b)
policy-words (after+ a b) = all_append (policy_words a) (policy_words b) (policy-words a) (policy-words b)
policy-words (fulfilling k a b c) =
    both_true (number-word k)
    (all_append (policy_words a) (policy_words b ++ policy_words c) (policy-words a) (all_append (policy_words b) (policy_words c) (policy-words b) (policy-words c)))
policy-words (ignoring f b) = all_append (formula_words f) (policy_words b) (formula-words f) (policy-words b)

pub policy-spaced : (p : Policy) → words_of (spaced_words (policy_words p)) ≡ policy_words p
policy-spaced p = words-spaced (policy_words p) (policy-words p)
