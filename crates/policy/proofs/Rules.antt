-- A well-typed policy trips as its kind's rule says of its parts, and its parts are well-typed. So it has not tripped at the empty
-- sequence, and what has tripped stays tripped however the sequence goes on.
-- Assumes nothing.
use mathlib.Core.Path.{◌≡◌, refl, sym, ◌∙◌, ap, subst, fun_ext}
use mathlib.Core.Bool.{Bool, true, false, cond, not}
use mathlib.Core.List.{List, [], ◌∷◌}
use mathlib.Core.Option.{Option, none, some}
use Prim.Native.Nat.{ℕ}
use lib.Dec.{leb}
use lib.ListN.{length, drop}
use borrow.Author.Tests.{leb-true}
use Rattle.policy.specs.Formula.{Formula, holds}
use Rattle.policy.specs.Operators.{Property, first_action, some_suffix, every_suffix, first, following}
use Rattle.policy.specs.Policy.{Policy, now, holds-first, count, not-p, and-p, or-p, eventually, always, before-, before+, after-, after+, fulfilling, ignoring, late, within, satisfies}
use Rattle.policy.specs.Typing.{Mode, watched, enforced, Bound, finite, typed, policy_type}
use Rattle.policy.specs.Rule.{on_parts, late_trips, fulfilling_trips, rule_trips, rule_of}
use Rattle.policy.specs.Parts.{AllParts, Positive}
use Rattle.policy.specs.Trips.{trips_policy, Typed}
use Rattle.policy.specs.Lasting.{Lasting}
use Rattle.policy.proofs.Operators.{not-not, not-or, not-and, every-not-some}
use Rattle.policy.proofs.Typings.{typed-as, from-typed, from-watched, from-enforced, from-mode, from-cond, fulfilling-typed}
use Rattle.policy.proofs.Parts.{all-apply, positive-on, policy-ind}
use Rattle.policy.proofs.Lasting.{rule-lasting}

-- violated, in the operators of each kind
not-first-action : (hit : ℕ → Bool) (w : List ℕ) → not (first_action true hit w) ≡ first_action false (λ a. not (hit a)) w
not-first-action hit [] = refl
not-first-action hit (a ∷ w) = refl

not-every : (P : Property) (w : List ℕ) → not (every_suffix P w) ≡ some_suffix (λ u. not (P u)) w
not-every P w = ap not (every-not-some P w) ∙ not-not (some_suffix (λ u. not (P u)) w)

not-following : (r : Option ℕ) (Q : Property) (w : List ℕ) → not (following true r Q w) ≡ following false r (λ u. not (Q u)) w
not-following none Q w = refl
not-following (some n) Q w = refl

not-cond : (b c d : Bool) → not (cond b c d) ≡ cond b (not c) (not d)
not-cond true c d = refl
not-cond false c d = refl

not_late : (k : ℕ) (R : Property) (w : List ℕ) → not (late k R w) ≡ late_trips k (λ u. not (R u)) w
not_late k R w = not-cond (leb k (length w)) (R (drop k w)) true

not_within : (k : ℕ) (r : Option ℕ) (Q R : Property) (w : List ℕ)
    → not (within k r Q R w) ≡ fulfilling_trips k r (λ u. not (Q u)) (λ u. not (R u)) w
not_within k none Q R w = not_late k R w
not_within k (some n) Q R w = not-cond (leb n k) (Q (drop n w)) (late k R w) ∙ ap (cond (leb n k) (not (Q (drop n w)))) (not_late k R w)

module _ (propositions : ℕ → ℕ) where
  -- what holds of a well-typed policy and its rule
  record Ruled (p : Policy) : Type 0 where
    parts : AllParts Typed (rule_of propositions p)
    positive : Positive (rule_of propositions p)
    trips : (w : List ℕ) → trips_policy propositions p w ≡ rule_trips (on_parts (trips_policy propositions) (rule_of propositions p)) w

  watched-trips : (p : Policy) {k : Bound} → policy_type p ≡ typed watched k → trips_policy propositions p ≡ satisfies propositions p
  watched-trips p e = fun_ext (λ w. rw e refl)

  enforced-trips : (p : Policy) {k : Bound} → policy_type p ≡ typed enforced k → trips_policy propositions p ≡ (λ w. not (satisfies propositions p w))
  enforced-trips p e = fun_ext (λ w. rw e refl)

  -- each kind, where its parts have the types that it asks for
  not-ruled : (a : Policy) (m : Mode) {k : Bound} → policy_type a ≡ typed m k → Ruled (not-p a)
  not-ruled a watched p = record { parts = typed-as p; positive = tt; trips = λ w. rw p (not-not (satisfies propositions a w)) }
  not-ruled a enforced p = record { parts = typed-as p; positive = tt; trips = λ w. rw p refl }

  eventually-ruled : (a : Policy) {k : Bound} → policy_type a ≡ typed watched k → Ruled (eventually a)
  eventually-ruled a p = record { parts = typed-as p; positive = tt; trips = λ w. rw (watched-trips a p, p) refl }

  always-ruled : (a : Policy) {k : Bound} → policy_type a ≡ typed enforced k → Ruled (always a)
  always-ruled a p =
      record { parts = typed-as p; positive = tt; trips = λ w. rw (enforced-trips a p, p) (not-every (satisfies propositions a) w) }

  ignoring-ruled : (f : Formula) (b : Policy) {m : Mode} {k : Bound} → policy_type b ≡ typed m k → Ruled (ignoring f b)
  ignoring-ruled f b q = record { parts = typed-as q; positive = tt; trips = λ w. rw q refl }

  module _ (a b : Policy) {j k : Bound} where
    and-ruled : (m : Mode) → policy_type a ≡ typed m j → policy_type b ≡ typed m k → Ruled (and-p a b)
    and-ruled watched p q = record { parts = rw p (typed-as p, typed-as q); positive = rw p tt; trips = λ w. rw (p, q, p) refl }
    and-ruled enforced p q =
        record {
          parts = rw p (typed-as p, typed-as q);
          positive = rw p tt;
          trips = λ w. rw (p, q, p) (not-and (satisfies propositions a w) (satisfies propositions b w));
        }

    or-ruled : (m : Mode) → policy_type a ≡ typed m j → policy_type b ≡ typed m k → Ruled (or-p a b)
    or-ruled watched p q = record { parts = rw p (typed-as p, typed-as q); positive = rw p tt; trips = λ w. rw (p, q, p) refl }
    or-ruled enforced p q =
        record {
          parts = rw p (typed-as p, typed-as q);
          positive = rw p tt;
          trips = λ w. rw (p, q, p) (not-or (satisfies propositions a w) (satisfies propositions b w));
        }

    before-ruled : policy_type a ≡ typed watched j → policy_type b ≡ typed watched k → Ruled (before- a b)
    before-ruled p q =
        record { parts = (typed-as p, typed-as q); positive = tt; trips = λ w. rw (watched-trips a p, p, q) refl }

    before+-ruled : policy_type a ≡ typed watched j → policy_type b ≡ typed enforced k → Ruled (before+ a b)
    before+-ruled p q =
        record { parts = (typed-as p, typed-as q); positive = tt; trips = λ w. rw (watched-trips a p, p, q) refl }

    after-ruled : policy_type a ≡ typed watched j → policy_type b ≡ typed watched k → Ruled (after- a b)
    after-ruled p q =
        record { parts = (typed-as p, typed-as q); positive = tt; trips = λ w. rw (watched-trips a p, watched-trips b q, p, q) refl }

    after+-ruled : policy_type a ≡ typed watched j → policy_type b ≡ typed enforced k → Ruled (after+ a b)
    after+-ruled p q =
        record {
          parts = (typed-as p, typed-as q);
          positive = tt;
          trips =
              λ w. rw (watched-trips a p, enforced-trips b q, p, q) (not-following (first (satisfies propositions a) w) (satisfies propositions b) w);
        }

  fulfilling-ruled : (n : ℕ) (a b c : Policy) {i j k : Bound} → policy_type a ≡ typed watched i → policy_type b ≡ typed enforced j
      → policy_type c ≡ typed enforced k → Ruled (fulfilling n a b c)
  fulfilling-ruled n a b c p q r =
      record {
        parts = (typed-as p, typed-as q, typed-as r);
        positive = tt;
        trips =
            λ w.
            rw (watched-trips a p, enforced-trips b q, enforced-trips c r, p, q, r)
            (not_within n (first (satisfies propositions a) w) (satisfies propositions b) (satisfies propositions c) w);
      }

  ruled : (p : Policy) {m : Mode} {k : Bound} → policy_type p ≡ typed m k → Ruled p
  ruled (now f) e = record { parts = tt; positive = tt; trips = λ w. refl }
  ruled (holds-first f) e = record { parts = tt; positive = tt; trips = λ w. not-first-action (λ a. holds f (propositions a)) w }
  ruled (count k) e =
      let h = from-cond (leb 1 k) (typed watched (finite k)) e in
      record { parts = tt; positive = leb-true 1 k h.0; trips = λ w. rw h.0 refl }
  ruled (not-p a) e = let h = from-typed (policy_type a) _ e in not-ruled a h.0 h.2
  ruled (and-p a b) e = let h = from-typed (policy_type a) _ e in and-ruled a b h.0 h.2 (from-mode h.0 (policy_type b) _ _ h.3).1
  ruled (or-p a b) e = let h = from-typed (policy_type a) _ e in or-ruled a b h.0 h.2 (from-mode h.0 (policy_type b) _ _ h.3).1
  ruled (eventually a) e = eventually-ruled a (from-watched (policy_type a) _ e).1
  ruled (always a) e = always-ruled a (from-enforced (policy_type a) _ e).1
  ruled (before- a b) e = let h = from-watched (policy_type a) _ e in before-ruled a b h.1 (from-watched (policy_type b) _ h.2).1
  ruled (before+ a b) e = let h = from-watched (policy_type a) _ e in before+-ruled a b h.1 (from-enforced (policy_type b) _ h.2).1
  ruled (after- a b) e = let h = from-watched (policy_type a) _ e in after-ruled a b h.1 (from-watched (policy_type b) _ h.2).1
  ruled (after+ a b) e = let h = from-watched (policy_type a) _ e in after+-ruled a b h.1 (from-enforced (policy_type b) _ h.2).1
  ruled (fulfilling n a b c) e = let t = (fulfilling-typed n a b c).0 e in fulfilling-ruled n a b c t.watched-a t.enforced-b t.enforced-c
  ruled (ignoring f b) e = ignoring-ruled f b (from-typed (policy_type b) _ e).2

  -- the rule of a well-typed policy has well-typed parts, counts from one up, and trips where the policy does
  pub rule-parts : (p : Policy) → Typed p → AllParts Typed (rule_of propositions p)
  rule-parts p t = (ruled p t.has).parts

  rule-positive : (p : Policy) → Typed p → Positive (rule_of propositions p)
  rule-positive p t = (ruled p t.has).positive

  pub rule-trips : (p : Policy) → Typed p → (w : List ℕ)
      → trips_policy propositions p w ≡ rule_trips (on_parts (trips_policy propositions) (rule_of propositions p)) w
  rule-trips p t = (ruled p t.has).trips

  -- a well-typed policy has not tripped at the empty sequence, and what has tripped stays tripped however the sequence goes on
  pub policy-lasting : (p : Policy) → Typed p → Lasting (trips_policy propositions p)
  policy-lasting = policy-ind propositions (λ p. Typed p → Lasting (trips_policy propositions p)) by-rule
    where
      by-rule : (p : Policy) → AllParts (λ a. Typed a → Lasting (trips_policy propositions a)) (rule_of propositions p) → Typed p
          → Lasting (trips_policy propositions p)
      by-rule p h t =
          subst Lasting (sym (fun_ext (rule-trips p t)))
          (rule-lasting (on_parts (trips_policy propositions) (rule_of propositions p)) (positive-on (trips_policy propositions) (rule_of propositions p) (rule-positive p t))
          (all-apply Typed Lasting (trips_policy propositions) (rule_of propositions p) h (rule-parts p t)))

  -- satisfied is tripped, for a watched policy, and not tripped, for an enforced one
  pub watched-satisfied : (p : Policy) (k : Bound) → policy_type p ≡ typed watched k → (w : List ℕ)
      → satisfies propositions p w ≡ trips_policy propositions p w
  watched-satisfied p k e w = rw e refl

  pub enforced-satisfied : (p : Policy) (k : Bound) → policy_type p ≡ typed enforced k → (w : List ℕ)
      → satisfies propositions p w ≡ not (trips_policy propositions p w)
  enforced-satisfied p k e w = rw e (sym (not-not (satisfies propositions p w)))

  -- so a verdict that is the trip itself of a watched policy, and none of an enforced one, says whether it is satisfied
  pub verdict-satisfied : (verdict : Mode → Bool → Bool) → ((b : Bool) → verdict watched b ≡ b) → ((b : Bool) → verdict enforced b ≡ not b)
      → (mode : Mode) (p : Policy) (k : Bound) → policy_type p ≡ typed mode k → (w : List ℕ)
      → verdict mode (trips_policy propositions p w) ≡ satisfies propositions p w
  verdict-satisfied verdict same other watched p k e w = same _ ∙ sym (watched-satisfied p k e w)
  verdict-satisfied verdict same other enforced p k e w = other _ ∙ sym (enforced-satisfied p k e w)
