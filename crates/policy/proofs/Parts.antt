-- Laws of what holds of every part of a rule, and induction over the parts that a policy's rule has.
-- Assumes nothing.
use mathlib.Core.Path.{◌≡◌, refl}
use Prim.Native.Nat.{ℕ}
use Rattle.policy.specs.Policy.{Policy, now, holds-first, count, not-p, and-p, or-p, eventually, always, before-, before+, after-, after+, fulfilling, ignoring}
use Rattle.std.proofs.Common.{None}
use Rattle.policy.specs.Typing.{watched, enforced, Typing, typed, policy_type}
use Rattle.policy.specs.Rule.{Rule, opening-r, count-r, same-r, both_r, either_r, copied-r, before-r, after-r, fulfilling-r, ignoring-r, on_parts, on_watched, rule_of}
use Rattle.policy.specs.Parts.{AllParts, Positive}

-- what follows part by part
pub all-apply : {P X : Type 0} (Q : P → Type 0) (R : X → Type 0) (f : P → X) (rule : Rule P)
    → AllParts (λ a. Q a → R (f a)) rule → AllParts Q rule → AllParts R (on_parts f rule)
all-apply Q R f (opening-r hit) h q = tt
all-apply Q R f (count-r k) h q = tt
all-apply Q R f (same-r a) h q = h q
all-apply Q R f (both_r a b) h q = (h.0 q.0, h.1 q.1)
all-apply Q R f (either_r a b) h q = (h.0 q.0, h.1 q.1)
all-apply Q R f (copied-r a) h q = h q
all-apply Q R f (before-r a b) h q = (h.0 q.0, h.1 q.1)
all-apply Q R f (after-r a b) h q = (h.0 q.0, h.1 q.1)
all-apply Q R f (fulfilling-r k a b c) h q = (h.0 q.0, h.1 q.1, h.2 q.2)
all-apply Q R f (ignoring-r hit a) h q = h q

pub positive-on : {P X : Type 0} (f : P → X) (rule : Rule P) → Positive rule → Positive (on_parts f rule)
positive-on f (opening-r hit) p = p
positive-on f (count-r k) p = p
positive-on f (same-r a) p = p
positive-on f (both_r a b) p = p
positive-on f (either_r a b) p = p
positive-on f (copied-r a) p = p
positive-on f (before-r a b) p = p
positive-on f (after-r a b) p = p
positive-on f (fulfilling-r k a b c) p = p
positive-on f (ignoring-r hit a) p = p

-- And, Or have the same parts either way
on-watched : {P : Type 0} (Q : P → Type 0) (a b : P) (s : Typing) → Q a → Q b → AllParts Q (on_watched s (both_r a b) (either_r a b))
on-watched Q a b (typed watched k) p q = (p, q)
on-watched Q a b (typed enforced k) p q = (p, q)
on-watched Q a b None p q = (p, q)

on-enforced : {P : Type 0} (Q : P → Type 0) (a b : P) (s : Typing) → Q a → Q b → AllParts Q (on_watched s (either_r a b) (both_r a b))
on-enforced Q a b (typed watched k) p q = (p, q)
on-enforced Q a b (typed enforced k) p q = (p, q)
on-enforced Q a b None p q = (p, q)

-- induction over policies, by their rules
pub policy-ind : (propositions : ℕ → ℕ) (Q : Policy → Type 0) → ((p : Policy) → AllParts Q (rule_of propositions p) → Q p) → (p : Policy) → Q p
policy-ind s Q h (now f) = h (now f) tt
policy-ind s Q h (holds-first f) = h (holds-first f) tt
policy-ind s Q h (count k) = h (count k) tt
policy-ind s Q h (not-p a) = h (not-p a) (policy-ind s Q h a)
policy-ind s Q h (and-p a b) = h (and-p a b) (on-watched Q a b (policy_type a) (policy-ind s Q h a) (policy-ind s Q h b))
policy-ind s Q h (or-p a b) = h (or-p a b) (on-enforced Q a b (policy_type a) (policy-ind s Q h a) (policy-ind s Q h b))
policy-ind s Q h (eventually a) = h (eventually a) (policy-ind s Q h a)
policy-ind s Q h (always a) = h (always a) (policy-ind s Q h a)
policy-ind s Q h (before- a b) = h (before- a b) (policy-ind s Q h a, policy-ind s Q h b)
policy-ind s Q h (before+ a b) = h (before+ a b) (policy-ind s Q h a, policy-ind s Q h b)
policy-ind s Q h (after- a b) = h (after- a b) (policy-ind s Q h a, policy-ind s Q h b)
policy-ind s Q h (after+ a b) = h (after+ a b) (policy-ind s Q h a, policy-ind s Q h b)
policy-ind s Q h (fulfilling k a b c) = h (fulfilling k a b c) (policy-ind s Q h a, policy-ind s Q h b, policy-ind s Q h c)
policy-ind s Q h (ignoring f b) = h (ignoring f b) (policy-ind s Q h b)

-- parts given in two steps
module _ {P X Y : Type 0} (g : X → Y) (f : P → X) where
  pub on-parts-compose : (rule : Rule P) → on_parts g (on_parts f rule) ≡ on_parts (λ a. g (f a)) rule
  on-parts-compose (opening-r hit) = refl
  on-parts-compose (count-r k) = refl
  on-parts-compose (same-r a) = refl
  on-parts-compose (both_r a b) = refl
  on-parts-compose (either_r a b) = refl
  on-parts-compose (copied-r a) = refl
  on-parts-compose (before-r a b) = refl
  on-parts-compose (after-r a b) = refl
  on-parts-compose (fulfilling-r k a b c) = refl
  on-parts-compose (ignoring-r hit a) = refl
