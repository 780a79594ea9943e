-- A typed policy whose numbers are in range is read back from its words; and they are the only ones.
-- Assumes nothing.
use Rattle.std.proofs.Common.{None}
use mathlib.Core.Path.{◌≡◌, refl, ap, subst}
use mathlib.Core.List.{List, [], ◌∷◌}
use Prim.Native.Nat.{ℕ}
use native.Mathlib.Omega.{arith}
use lib.Dec.{leb}
use Rattle.policy.specs.Formula.{Formula as ActionFormula, always-true, always-false, proposition, negation, conjunction, disjunction}
use Rattle.policy.specs.Policy.{Policy, now, holds-first, count, not-p, and-p, or-p, eventually, always, before-, before+, after-, after+, fulfilling, ignoring}
use Rattle.trace.specs.declared.Mode.{Mode}
use Rattle.trace.specs.declared.Mode.TheVariants.{Watched as watched, Enforced as enforced}
use Rattle.policy.specs.declared.Bound.{Bound}
use Rattle.policy.specs.Typing.{typed, Typing, other, alike_typed, policy_type}
use Rattle.policy.proofs.Typings.{from-typed, from-watched, from-enforced, from-cond}
use Rattle.grammar.specs.Words.{Word}
use Rattle.grammar.specs.Spelling.{number_word}
use Rattle.grammar.specs.Grammar.{TextRule, Reading, Reads, watch, enforce, now-w, count-w, not-w, and-w, or-w, eventually-w, before-w, after-w, ignoring-w, holds-e, not-e, and-e, or-e, always-e, before-e, after-e, fulfilling-e, ignoring-e, true-a, false-a, proposition-a, not_a, and-a, or-a, number}
use Rattle.grammar.specs.declared.Category.{Category}
use Rattle.grammar.specs.declared.Category.TheVariants.{Text, Watched, Enforced, Formula, Number, End}
use Rattle.part_laws.specs.Spelled.{formula_words, policy_words, FormulaInRange, PolicyInRange, ReadsInMode, first_word}

abbrev Spelled : Mode → Policy → Type 0
Spelled m p = ReadsInMode m (policy_words p) p

-- the kinds that are watched or enforced as their parts are
not-as : (m : Mode) (a : Policy) → Spelled m a → Spelled (other m) (not-p a)
not-as watched a r = not-e r
not-as enforced a r = not-w r

and-as : (m : Mode) (a b : Policy) → Spelled m a → Spelled m b → Spelled m (and-p a b)
and-as watched a b r s = and-w r s
and-as enforced a b r s = and-e r s

or_as : (m : Mode) (a b : Policy) → Spelled m a → Spelled m b → Spelled m (or-p a b)
or_as watched a b r s = or-w r s
or_as enforced a b r s = or-e r s

ignoring-as : (m : Mode) (f : ActionFormula) (b : Policy) → Reads Formula (formula_words f) f → Spelled m b → Spelled m (ignoring f b)
ignoring-as watched f b r s = ignoring-w r s
ignoring-as enforced f b r s = ignoring-e r s

-- a typing has one mode
abbrev mode_of : Typing → Mode
mode_of (typed m k) = m
mode_of None = watched

turned : (p : Policy) {n m : Mode} {j k : Bound} → typed n j ≡ typed m k → Spelled n p → Spelled m p
turned p {n} {m} e r = let same : n ≡ m = ap mode_of e in subst (λ (x : Mode). Spelled x p) same r

no-type : {A : Type 0} {m : Mode} {k : Bound} → None ≡ typed m k → A
no-type e = absurd (let z : ◌≡◌ {A = ℕ} 0 1 = cc in omega arith)

abbrev Typed : Mode → Typing → Type 0
Typed m s = (j : Bound) × (s ≡ typed m j)

both-alike : (s t : Typing) {m : Mode} {k : Bound} → alike_typed s t ≡ typed m k → Typed m s × Typed m t
both-alike (typed watched j) (typed watched i) {m} e =
    let same : watched ≡ m = ap mode_of e in ((j, ap (λ (x : Mode). typed x j) same), (i, ap (λ (x : Mode). typed x i) same))
both-alike (typed watched j) (typed enforced i) e = no-type e
both-alike (typed watched j) None e = no-type e
both-alike (typed enforced j) (typed watched i) e = no-type e
both-alike (typed enforced j) (typed enforced i) {m} e =
    let same : enforced ≡ m = ap mode_of e in ((j, ap (λ (x : Mode). typed x j) same), (i, ap (λ (x : Mode). typed x i) same))
both-alike (typed enforced j) None e = no-type e
both-alike None t e = no-type e

pub formula-spelled : (f : ActionFormula) → FormulaInRange f → Reads Formula (formula_words f) f
formula-spelled always-true r = true-a
formula-spelled always-false r = false-a
formula-spelled (proposition p) r = proposition-a r
formula-spelled (negation f) r = not_a (formula-spelled f r)
formula-spelled (conjunction f g) r = and-a (formula-spelled f r.0) (formula-spelled g r.1)
formula-spelled (disjunction f g) r = or-a (formula-spelled f r.0) (formula-spelled g r.1)

pub spelled : (p : Policy) {m : Mode} {k : Bound} → policy_type p ≡ typed m k → PolicyInRange p → ReadsInMode m (policy_words p) p
spelled (now f) e r = turned (now f) e (now-w (formula-spelled f r))
spelled (holds-first f) e r = turned (holds-first f) e (holds-e (formula-spelled f r))
spelled (count k) e r = turned (count k) (from-cond (leb 1 k) _ e).1 (count-w (number r.0 r.1))
spelled (not-p a) e r = let h = from-typed (policy_type a) _ e in turned (not-p a) h.3 (not-as h.0 a (spelled a h.2 r))
spelled (and-p a b) {m} e r =
    let h = both-alike (policy_type a) (policy_type b) e in and-as m a b (spelled a h.0.1 r.0) (spelled b h.1.1 r.1)
spelled (or-p a b) {m} e r =
    let h = both-alike (policy_type a) (policy_type b) e in or_as m a b (spelled a h.0.1 r.0) (spelled b h.1.1 r.1)
spelled (eventually a) e r = let h = from-watched (policy_type a) _ e in turned (eventually a) h.2 (eventually-w (spelled a h.1 r))
spelled (always a) e r = let h = from-enforced (policy_type a) _ e in turned (always a) h.2 (always-e (spelled a h.1 r))
spelled (before- a b) e r =
    let h = from-watched (policy_type a) _ e in
    let g = from-watched (policy_type b) _ h.2 in
    turned (before- a b) g.2 (before-w (spelled a h.1 r.0) (spelled b g.1 r.1))
spelled (before+ a b) e r =
    let h = from-watched (policy_type a) _ e in
    let g = from-enforced (policy_type b) _ h.2 in
    turned (before+ a b) g.2 (before-e (spelled a h.1 r.0) (spelled b g.1 r.1))
spelled (after- a b) e r =
    let h = from-watched (policy_type a) _ e in
    let g = from-watched (policy_type b) _ h.2 in
    turned (after- a b) g.2 (after-w (spelled a h.1 r.0) (spelled b g.1 r.1))
spelled (after+ a b) e r =
    let h = from-watched (policy_type a) _ e in
    let g = from-enforced (policy_type b) _ h.2 in
    turned (after+ a b) g.2 (after-e (spelled a h.1 r.0) (spelled b g.1 r.1))
spelled (fulfilling k a b c) e r =
    let h = from-watched (policy_type a) _ e in
    let g = from-enforced (policy_type b) _ h.2 in
    let f = from-enforced (policy_type c) _ g.2 in
    turned (fulfilling k a b c) f.2
    (fulfilling-e (number r.0 r.1) (spelled a h.1 r.2) (spelled b g.1 r.3) (spelled c f.1 r.4))
spelled (ignoring f b) e r =
    let h = from-typed (policy_type b) _ e in
    turned (ignoring f b) h.3 (ignoring-as h.0 f b (formula-spelled f r.0) (spelled b h.2 r.1))

-- as a whole text
pub as-text : (m : Mode) (p : Policy) → Spelled m p → Reads Text (first_word m ∷ policy_words p) (record { mode = m; policy = p })
as-text watched p r = watch r
as-text enforced p r = enforce r

-- The words of a reading of any category. They are the only ones that are read so.
abbrev words_in : (c : Category) → Reading c → List Word
words_in Text rule = first_word rule.mode ∷ policy_words rule.policy
words_in Watched p = policy_words p
words_in Enforced p = policy_words p
words_in Formula f = formula_words f
words_in Number k = number_word k ∷ []
words_in End x = []

spelling : {c : Category} {ws : List Word} {x : Reading c} → Reads c ws x → ws ≡ words_in c x
spelling (watch r) = rw (spelling r)
spelling (enforce r) = rw (spelling r)
spelling (now-w r) = rw (spelling r)
spelling (count-w r) = rw (spelling r)
spelling (not-w r) = rw (spelling r)
spelling (and-w r s) = rw (spelling r, spelling s)
spelling (or-w r s) = rw (spelling r, spelling s)
spelling (eventually-w r) = rw (spelling r)
spelling (before-w r s) = rw (spelling r, spelling s)
spelling (after-w r s) = rw (spelling r, spelling s)
spelling (ignoring-w r s) = rw (spelling r, spelling s)
spelling (holds-e r) = rw (spelling r)
spelling (not-e r) = rw (spelling r)
spelling (and-e r s) = rw (spelling r, spelling s)
spelling (or-e r s) = rw (spelling r, spelling s)
spelling (always-e r) = rw (spelling r)
spelling (before-e r s) = rw (spelling r, spelling s)
spelling (after-e r s) = rw (spelling r, spelling s)
spelling (fulfilling-e q r s t) = rw (spelling q, spelling r, spelling s, spelling t)
spelling (ignoring-e r s) = rw (spelling r, spelling s)
spelling true-a = refl
spelling false-a = refl
spelling (proposition-a h) = refl
spelling (not_a r) = rw (spelling r)
spelling (and-a r s) = rw (spelling r, spelling s)
spelling (or-a r s) = rw (spelling r, spelling s)
spelling (number l h) = refl

pub one-spelling : {ws : List Word} {rule : TextRule} → Reads Text ws rule → ws ≡ first_word rule.mode ∷ policy_words rule.policy
one-spelling r = spelling r
