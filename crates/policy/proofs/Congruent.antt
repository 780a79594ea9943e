-- Rules are congruent: where the parts trip alike on all sequences of some actions, so do the rules over them.
-- Assumes nothing.
use mathlib.Core.Path.{◌≡◌, refl, ap₂}
use mathlib.Core.Bool.{Bool, true, false, cond, ◌&&◌, ◌||◌}
use mathlib.Core.List.{List, [], ◌∷◌}
use mathlib.Core.Option.{Option, none, some}
use Prim.Native.Nat.{ℕ, zero, suc}
use lib.Dec.{leb}
use lib.ListN.{take, drop}
use Rattle.trace.specs.Trace.{Sequence}
use Rattle.policy.specs.Operators.{Property, some_suffix, one_more, first, up_to, following, without}
use Rattle.policy.specs.Rule.{Rule, opening-r, count-r, same-r, both_r, either_r, copied-r, before-r, after-r, fulfilling-r, ignoring-r, on_parts, late_trips, fulfilling_trips, rule_trips}
use Rattle.policy.specs.Parts.{AllParts}
use Rattle.policy.specs.Agree.{Agree}

module _ (actions : ℕ) where
  -- what is cut from a sequence is one
  pub sequence-take : (n : ℕ) (w : List ℕ) → Sequence actions w → Sequence actions (take n w)
  sequence-take zero w s = tt
  sequence-take (suc n) [] s = tt
  sequence-take (suc n) (a ∷ w) s = (s.0, sequence-take n w s.1)

  sequence-drop : (n : ℕ) (w : List ℕ) → Sequence actions w → Sequence actions (drop n w)
  sequence-drop zero w s = s
  sequence-drop (suc n) [] s = tt
  sequence-drop (suc n) (a ∷ w) s = sequence-drop n w s.1

  sequence-without : (hit : ℕ → Bool) (w : List ℕ) → Sequence actions w → Sequence actions (without hit w)
  sequence-without hit [] s = tt
  sequence-without hit (a ∷ w) s = kept (hit a) (sequence-without hit w s.1)
    where
      kept : (b : Bool) → Sequence actions (without hit w) → Sequence actions (cond b (without hit w) (a ∷ without hit w))
      kept true t = t
      kept false t = (s.0, t)

  sequence-up-to : (r : Option ℕ) (w : List ℕ) → Sequence actions w → Sequence actions (up_to r w)
  sequence-up-to none w s = s
  sequence-up-to (some n) w s = sequence-take n w s

  -- each operator
  some-suffix-agree : (P Q : Property) → Agree actions P Q → Agree actions (some_suffix P) (some_suffix Q)
  some-suffix-agree P Q h [] s = h [] s
  some-suffix-agree P Q h (a ∷ w) s = ap₂ (λ (b c : Bool). b || c) (h (a ∷ w) s) (some-suffix-agree P Q h w s.1)

  first-agree : (w : List ℕ) (P Q : Property) → Agree actions P Q → Sequence actions w → first P w ≡ first Q w
  first-agree [] P Q h s = rw (h [] s) refl
  first-agree (a ∷ w) P Q h s =
      ap₂ (λ (b : Bool) (r : Option ℕ). cond b (some 0) (one_more r)) (h [] tt)
      (first-agree w (λ u. P (a ∷ u)) (λ u. Q (a ∷ u)) (λ u t. h (a ∷ u) (s.0, t)) s.1)

  following-agree : (r : Option ℕ) (P Q : Property) → Agree actions P Q → Agree actions (following false r P) (following false r Q)
  following-agree none P Q h w s = refl
  following-agree (some n) P Q h w s = h (drop n w) (sequence-drop n w s)

  late-agree : (k : ℕ) (P Q : Property) → Agree actions P Q → Agree actions (late_trips k P) (late_trips k Q)
  late-agree k P Q h w s = rw (h (drop k w) (sequence-drop k w s)) refl

  fulfilling-agree : (k : ℕ) (r : Option ℕ) (P Q R S : Property) → Agree actions P Q → Agree actions R S
      → Agree actions (fulfilling_trips k r P R) (fulfilling_trips k r Q S)
  fulfilling-agree k none P Q R S g h w s = late-agree k R S h w s
  fulfilling-agree k (some n) P Q R S g h w s = ap₂ (cond (leb n k)) (g (drop n w) (sequence-drop n w s)) (late-agree k R S h w s)

  module _ {P : Type 0} (T U : P → Property) where
    pub rule-congruent : (rule : Rule P) → AllParts (λ a. Agree actions (T a) (U a)) rule
        → Agree actions (rule_trips (on_parts T rule)) (rule_trips (on_parts U rule))
    rule-congruent (opening-r hit) h w s = refl
    rule-congruent (count-r k) h w s = refl
    rule-congruent (same-r a) h w s = h w s
    rule-congruent (both_r a b) h w s = ap₂ (λ (b c : Bool). b && c) (h.0 w s) (h.1 w s)
    rule-congruent (either_r a b) h w s = ap₂ (λ (b c : Bool). b || c) (h.0 w s) (h.1 w s)
    rule-congruent (copied-r a) h w s = some-suffix-agree (T a) (U a) h w s
    rule-congruent (before-r a b) h w s =
        rw (first-agree w (T a) (U a) h.0 s) (h.1 (up_to (first (U a) w) w) (sequence-up-to (first (U a) w) w s))
    rule-congruent (after-r a b) h w s =
        rw (first-agree w (T a) (U a) h.0 s) (following-agree (first (U a) w) (T b) (U b) h.1 w s)
    rule-congruent (fulfilling-r k a b c) h w s =
        rw (first-agree w (T a) (U a) h.0 s) (fulfilling-agree k (first (U a) w) (T b) (U b) (T c) (U c) h.1 h.2 w s)
    rule-congruent (ignoring-r hit a) h w s = h (without hit w) (sequence-without hit w s)
