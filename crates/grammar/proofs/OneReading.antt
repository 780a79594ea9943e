-- Words have at most one reading: they are evaluated from the right, each word with the values found behind it, and every reading is that value.
-- Assumes nothing.
use mathlib.Core.Path.{◌≡◌, refl}
use mathlib.Core.List.{List, [], ◌∷◌, ◌++◌, append_assoc}
use Prim.Native.Nat.{ℕ}
use Rattle.trace.specs.declared.Mode.{Mode}
use Rattle.trace.specs.declared.Mode.TheVariants.{Watched as watched, Enforced as enforced}
use Rattle.policy.specs.Formula.{Formula as ActionFormula, always-true, always-false, proposition, negation, conjunction, disjunction}
use Rattle.policy.specs.Policy.{Policy, now, holds-first, count, not-p, and-p, or-p, eventually, always, before-, before+, after-, after+, fulfilling, ignoring}
use Rattle.grammar.specs.Words.{Word}
use Rattle.grammar.specs.Spelling.{token_of, whether}
use Rattle.grammar.specs.Grammar.{TextRule, Reading, Reads, watch, enforce, now-w, count-w, not-w, and-w, or-w, eventually-w, before-w, after-w, ignoring-w, holds-e, not-e, and-e, or-e, always-e, before-e, after-e, fulfilling-e, ignoring-e, true-a, false-a, proposition-a, not_a, and-a, or-a, number}
use Rattle.grammar.specs.declared.Token.{Token}
use Rattle.grammar.specs.declared.Token.TheVariants.{Watch, Enforce, Now, Holds, Count, Not, And, Or, Eventually, Always, Before, After, Fulfilling, Ignoring, True, False, Proposition, Number as NumberToken, Other}
use Rattle.grammar.specs.declared.Category.{Category}
use Rattle.grammar.specs.declared.Category.TheVariants.{Text, Watched, Enforced, Formula, Number, End}
use Rattle.grammar.proofs.Tokens.{number-token, proposition-token}

-- What words of any category are read as; a policy with its category.
data Value : Type 0 where
  a-rule : TextRule → Value
  a-policy : Mode → Policy → Value
  a-formula : ActionFormula → Value
  a-number : ℕ → Value

abbrev value_as : (c : Category) → Reading c → Value
value_as Text r = a-rule r
value_as Watched p = a-policy watched p
value_as Enforced p = a-policy enforced p
value_as Formula f = a-formula f
value_as Number k = a-number k
value_as End u = a-number 0

-- What a value holds, with any answer for a value of another kind.
abbrev mode_in : Value → Mode
mode_in (a-rule r) = r.mode
mode_in (a-policy m p) = m
mode_in (a-formula f) = watched
mode_in (a-number k) = watched

abbrev policy_in : Value → Policy
policy_in (a-rule r) = r.policy
policy_in (a-policy m p) = p
policy_in (a-formula f) = now f
policy_in (a-number k) = count k

abbrev formula_in : Value → ActionFormula
formula_in (a-rule r) = always-true
formula_in (a-policy m p) = always-true
formula_in (a-formula f) = f
formula_in (a-number k) = always-true

abbrev number_in : Value → ℕ
number_in (a-rule r) = 0
number_in (a-policy m p) = 0
number_in (a-formula f) = 0
number_in (a-number k) = k

-- A value for the first one, two or four.
abbrev one : (Value → Value) → List Value → List Value
one f [] = []
one f (a ∷ s) = f a ∷ s

abbrev two : (Value → Value → Value) → List Value → List Value
two f [] = []
two f (a ∷ []) = []
two f (a ∷ b ∷ s) = f a b ∷ s

abbrev four : (Value → Value → Value → Value → Value) → List Value → List Value
four f [] = []
four f (a ∷ []) = []
four f (a ∷ b ∷ []) = []
four f (a ∷ b ∷ c ∷ []) = []
four f (a ∷ b ∷ c ∷ d ∷ s) = f a b c d ∷ s

-- The words that stand in several categories.
abbrev turned : Mode → Mode
turned watched = enforced
turned enforced = watched

abbrev negated : Value → Value
negated (a-rule r) = a-rule r
negated (a-policy m p) = a-policy (turned m) (not-p p)
negated (a-formula f) = a-formula (negation f)
negated (a-number k) = a-number k

abbrev joined : (Policy → Policy → Policy) → (ActionFormula → ActionFormula → ActionFormula) → Value → Value → Value
joined p f (a-rule r) b = a-rule r
joined p f (a-policy m a) b = a-policy m (p a (policy_in b))
joined p f (a-formula a) b = a-formula (f a (formula_in b))
joined p f (a-number k) b = a-number k

abbrev by_mode : {A : Type 0} → A → A → Mode → A
by_mode w e watched = w
by_mode w e enforced = e

abbrev ordered : (minus plus : Policy → Policy → Policy) → Value → Value → Value
ordered minus plus a b = a-policy (mode_in b) (by_mode minus plus (mode_in b) (policy_in a) (policy_in b))

-- a word before words whose values are known
abbrev apply : Token → List Value → List Value
apply Watch = one (λ a. a-rule (record { mode = watched; policy = policy_in a }))
apply Enforce = one (λ a. a-rule (record { mode = enforced; policy = policy_in a }))
apply Now = one (λ a. a-policy watched (now (formula_in a)))
apply Holds = one (λ a. a-policy enforced (holds-first (formula_in a)))
apply Count = one (λ a. a-policy watched (count (number_in a)))
apply Not = one negated
apply And = two (joined and-p conjunction)
apply Or = two (joined or-p disjunction)
apply Eventually = one (λ a. a-policy watched (eventually (policy_in a)))
apply Always = one (λ a. a-policy enforced (always (policy_in a)))
apply Before = two (ordered before- before+)
apply After = two (ordered after- after+)
apply Fulfilling = four (λ k a b c. a-policy enforced (fulfilling (number_in k) (policy_in a) (policy_in b) (policy_in c)))
apply Ignoring = two (λ f a. a-policy (mode_in a) (ignoring (formula_in f) (policy_in a)))
apply True = λ s. a-formula always-true ∷ s
apply False = λ s. a-formula always-false ∷ s
apply (Proposition p) = λ s. a-formula (proposition p) ∷ s
apply (NumberToken k) = λ s. a-number k ∷ s
apply Other = λ s. s

-- the values of words one behind the other
abbrev evaluate : List Word → List Value
evaluate [] = []
evaluate (w ∷ ws) = apply (token_of w) (evaluate ws)

-- a reading is what its words evaluate to
evaluates : {c : Category} {us : List Word} {x : Reading c} → Reads c us x → (more : List Word) → evaluate (us ++ more) ≡ value_as c x ∷ evaluate more
unfolding token_of whether
evaluates (watch a) more = rw (evaluates a more)
evaluates (enforce a) more = rw (evaluates a more)
evaluates (now-w a) more = rw (evaluates a more)
evaluates (count-w a) more = rw (evaluates a more)
evaluates (not-w a) more = rw (evaluates a more)
evaluates (and-w {us} {vs} a b) more = rw (append_assoc us vs more, evaluates a (vs ++ more), evaluates b more)
evaluates (or-w {us} {vs} a b) more = rw (append_assoc us vs more, evaluates a (vs ++ more), evaluates b more)
evaluates (eventually-w a) more = rw (evaluates a more)
evaluates (before-w {us} {vs} a b) more = rw (append_assoc us vs more, evaluates a (vs ++ more), evaluates b more)
evaluates (after-w {us} {vs} a b) more = rw (append_assoc us vs more, evaluates a (vs ++ more), evaluates b more)
evaluates (ignoring-w {us} {vs} a b) more = rw (append_assoc us vs more, evaluates a (vs ++ more), evaluates b more)
evaluates (holds-e a) more = rw (evaluates a more)
evaluates (not-e a) more = rw (evaluates a more)
evaluates (and-e {us} {vs} a b) more = rw (append_assoc us vs more, evaluates a (vs ++ more), evaluates b more)
evaluates (or-e {us} {vs} a b) more = rw (append_assoc us vs more, evaluates a (vs ++ more), evaluates b more)
evaluates (always-e a) more = rw (evaluates a more)
evaluates (before-e {us} {vs} a b) more = rw (append_assoc us vs more, evaluates a (vs ++ more), evaluates b more)
evaluates (after-e {us} {vs} a b) more = rw (append_assoc us vs more, evaluates a (vs ++ more), evaluates b more)
evaluates (fulfilling-e {ts} {us} {vs} {ws} k a b c) more =
    rw
    (append_assoc ts (us ++ (vs ++ ws)) more, append_assoc us (vs ++ ws) more, append_assoc vs ws more, evaluates k (us ++ (vs ++ (ws ++ more))), evaluates a (vs ++ (ws ++ more)), evaluates b (ws ++ more), evaluates c more)
evaluates (ignoring-e {us} {vs} a b) more = rw (append_assoc us vs more, evaluates a (vs ++ more), evaluates b more)
evaluates true-a more = refl
evaluates false-a more = refl
evaluates (proposition-a {p} l) more = rw (proposition-token p l)
evaluates (not_a a) more = rw (evaluates a more)
evaluates (and-a {us} {vs} a b) more = rw (append_assoc us vs more, evaluates a (vs ++ more), evaluates b more)
evaluates (or-a {us} {vs} a b) more = rw (append_assoc us vs more, evaluates a (vs ++ more), evaluates b more)
evaluates (number {k} l m) more = rw (number-token k l m)

-- a value's reading, taken out again
taken : (c : Category) (x y : Reading c) → value_as c x ≡ value_as c y → x ≡ y
taken Text x y e = cc
taken Watched x y e = cc
taken Enforced x y e = cc
taken Formula x y e = cc
taken Number x y e = cc
taken End x y e = refl

pub one-reading : {c : Category} {ws : List Word} {x y : Reading c} → Reads c ws x → Reads c ws y → x ≡ y
one-reading {c} {x} {y} r q = taken c x y (cc (evaluates r [], evaluates q []))
