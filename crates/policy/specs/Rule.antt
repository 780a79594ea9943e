-- The kinds on the level of trips. Which sequences trip a policy follows from which trip its parts, by one of ten rules: Holds f trips as
-- Now (not f); Not a as a; And of watched and Or of enforced parts where both trip, the other two where either does; Eventually and
-- Always where a copy of the part begun at some suffix trips; the two Befores, and the two Afters, by one rule each.
-- Assumes nothing.
use Rattle.std.specs.Prelude.{None, Bool, false, cond, not, ◌&&◌, ◌||◌, ℕ, leb, length, drop}
use Rattle.std.proofs.Math.Option.{Option, none, some}
use Rattle.policy.specs.Formula.{holds}
use Rattle.policy.specs.Operators.{Property, first_action, some_suffix, first, up_to, following, without}
use Rattle.policy.specs.Policy.{Policy, now, holds-first, count, not-p, and-p, or-p, eventually, always, before-, before+, after-, after+, fulfilling, ignoring}
use Rattle.policy.specs.Typing.{watched, enforced, Typing, typed, policy_type}

-- A rule over parts P: what a part is, a policy, a property of sequences or a machine, is left open. `hit` says which actions satisfy a formula.
pub data Rule (P : Type 0) : Type 0 where
  opening-r : (hit : ℕ → Bool) → Rule P
  count-r : (k : ℕ) → Rule P
  same-r : P → Rule P
  both_r : P → P → Rule P
  either_r : P → P → Rule P
  copied-r : P → Rule P
  before-r : (a b : P) → Rule P
  after-r : (a b : P) → Rule P
  fulfilling-r : (k : ℕ) → (a b c : P) → Rule P
  ignoring-r : (hit : ℕ → Bool) → P → Rule P

abbrev pub on_parts : {P Q : Type 0} → (P → Q) → Rule P → Rule Q
on_parts f (opening-r hit) = opening-r hit
on_parts f (count-r k) = count-r k
on_parts f (same-r a) = same-r (f a)
on_parts f (both_r a b) = both_r (f a) (f b)
on_parts f (either_r a b) = either_r (f a) (f b)
on_parts f (copied-r a) = copied-r (f a)
on_parts f (before-r a b) = before-r (f a) (f b)
on_parts f (after-r a b) = after-r (f a) (f b)
on_parts f (fulfilling-r k a b c) = fulfilling-r k (f a) (f b) (f c)
on_parts f (ignoring-r hit a) = ignoring-r hit (f a)

-- The part's wait is over after k actions: c is then judged on what follows.
abbrev pub late_trips : ℕ → Property → Property
late_trips k c w = cond (leb k (length w)) (c (drop k w)) false

abbrev pub fulfilling_trips : ℕ → Option ℕ → Property → Property → Property
fulfilling_trips k none b c w = late_trips k c w
fulfilling_trips k (some n) b c w = cond (leb n k) (b (drop n w)) (late_trips k c w)

-- Whether a sequence trips a rule, from which sequences trip its parts.
abbrev pub rule_trips : Rule Property → Property
rule_trips (opening-r hit) w = first_action false hit w
rule_trips (count-r k) w = leb k (length w)
rule_trips (same-r a) w = a w
rule_trips (both_r a b) w = a w && b w
rule_trips (either_r a b) w = a w || b w
rule_trips (copied-r a) w = some_suffix a w
rule_trips (before-r a b) w = b (up_to (first a w) w)
rule_trips (after-r a b) w = following false (first a w) b w
rule_trips (fulfilling-r k a b c) w = fulfilling_trips k (first a w) b c w
rule_trips (ignoring-r hit a) w = a (without hit w)

abbrev pub on_watched : {P : Type 0} → Typing → Rule P → Rule P → Rule P
on_watched (typed watched k) r s = r
on_watched (typed enforced k) r s = s
on_watched None r s = r

-- The rule of each kind, over its parts. And, Or go by the type of their parts.
abbrev pub rule_of : (ℕ → ℕ) → Policy → Rule Policy
rule_of propositions (now f) = opening-r (λ a. holds f (propositions a))
rule_of propositions (holds-first f) = opening-r (λ a. not (holds f (propositions a)))
rule_of propositions (count k) = count-r k
rule_of propositions (not-p a) = same-r a
rule_of propositions (and-p a b) = on_watched (policy_type a) (both_r a b) (either_r a b)
rule_of propositions (or-p a b) = on_watched (policy_type a) (either_r a b) (both_r a b)
rule_of propositions (eventually a) = copied-r a
rule_of propositions (always a) = copied-r a
rule_of propositions (before- a b) = before-r a b
rule_of propositions (before+ a b) = before-r a b
rule_of propositions (after- a b) = after-r a b
rule_of propositions (after+ a b) = after-r a b
rule_of propositions (fulfilling k a b c) = fulfilling-r k a b c
rule_of propositions (ignoring f b) = ignoring-r (λ a. holds f (propositions a)) b
