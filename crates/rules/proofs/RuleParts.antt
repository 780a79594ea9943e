-- Laws of rules over their parts: what follows part by part, parts given by functions that agree on them, and counts.
-- Assumes nothing.
use mathlib.Core.Path.{◌≡◌, refl}
use Rattle.policy.specs.Rule.{Rule, opening-r, count-r, same-r, both_r, either_r, copied-r, before-r, after-r, fulfilling-r, ignoring-r, on_parts}
use Rattle.policy.specs.Parts.{AllParts, Positive}
use Rattle.policy.proofs.Parts.{all-apply}
use Rattle.rules.specs.Codes.{CountInRange}

-- what follows of each part
module _ {P : Type 0} (Q R : P → Type 0) (each : (a : P) → Q a → R a) where
  pub all_map : (rule : Rule P) → AllParts Q rule → AllParts R rule
  all_map (opening-r hit) q = tt
  all_map (count-r k) q = tt
  all_map (same-r a) q = each a q
  all_map (both_r a b) q = (each a q.0, each b q.1)
  all_map (either_r a b) q = (each a q.0, each b q.1)
  all_map (copied-r a) q = each a q
  all_map (before-r a b) q = (each a q.0, each b q.1)
  all_map (after-r a b) q = (each a q.0, each b q.1)
  all_map (fulfilling-r k a b c) q = (each a q.0, each b q.1, each c q.2)
  all_map (ignoring-r hit a) q = each a q

pub all-onto : {P X : Type 0} (Q : P → Type 0) (R : X → Type 0) (f : P → X) → ((a : P) → Q a → R (f a)) → (rule : Rule P) → AllParts Q rule
    → AllParts R (on_parts f rule)
all-onto Q R f each rule q = all-apply Q R f rule (all_map Q (λ a. Q a → R (f a)) (λ a p o. each a p) rule q) q

-- two functions that agree on the parts give one rule
module _ {P X : Type 0} (f g : P → X) where
  pub on-parts-agree : (rule : Rule P) → AllParts (λ a. f a ≡ g a) rule → on_parts f rule ≡ on_parts g rule
  on-parts-agree (opening-r hit) e = refl
  on-parts-agree (count-r k) e = refl
  on-parts-agree (same-r a) e = rw e
  on-parts-agree (both_r a b) e = rw (e.0, e.1)
  on-parts-agree (either_r a b) e = rw (e.0, e.1)
  on-parts-agree (copied-r a) e = rw e
  on-parts-agree (before-r a b) e = rw (e.0, e.1)
  on-parts-agree (after-r a b) e = rw (e.0, e.1)
  on-parts-agree (fulfilling-r k a b c) e = rw (e.0, e.1, e.2)
  on-parts-agree (ignoring-r hit a) e = rw e

-- a count does not depend on the parts
pub count-on : {X Y : Type 0} (f : X → Y) (rule : Rule X) → CountInRange rule → CountInRange (on_parts f rule)
count-on f (opening-r hit) h = h
count-on f (count-r k) h = h
count-on f (same-r a) h = h
count-on f (both_r a b) h = h
count-on f (either_r a b) h = h
count-on f (copied-r a) h = h
count-on f (before-r a b) h = h
count-on f (after-r a b) h = h
count-on f (fulfilling-r k a b c) h = h
count-on f (ignoring-r hit a) h = h

-- a count from 1 to 60 is 1 or more
pub count-positive : {P : Type 0} (rule : Rule P) → CountInRange rule → Positive rule
count-positive (opening-r hit) h = tt
count-positive (count-r k) h = h.0
count-positive (same-r a) h = tt
count-positive (both_r a b) h = tt
count-positive (either_r a b) h = tt
count-positive (copied-r a) h = tt
count-positive (before-r a b) h = tt
count-positive (after-r a b) h = tt
count-positive (fulfilling-r k a b c) h = tt
count-positive (ignoring-r hit a) h = tt
