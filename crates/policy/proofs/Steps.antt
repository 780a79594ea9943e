-- The step of every rule is right: a sequence that trips the rule trips the step, and any other leads to what is remembered of it.
-- Assumes nothing.
use mathlib.Core.Path.{◌≡◌, sym, ◌∙◌, ap}
use mathlib.Core.Bool.{Bool, false}
use mathlib.Core.List.{List, [], ◌∷◌, ◌++◌}
use Prim.Native.Nat.{ℕ}
use Rattle.trace.specs.Trace.{Move, go, after, run, tripped, trips}
use Rattle.trace.proofs.Laws.{run-append}
use Rattle.policy.specs.Rule.{Rule, opening-r, count-r, same-r, both_r, either_r, copied-r, before-r, after-r, fulfilling-r, ignoring-r, on_parts, rule_trips}
use Rattle.policy.specs.Value.{Part, part_trips, Value, remembered, start, step_of}
use Rattle.policy.specs.Closed.{SoundRule, answer}
use Rattle.policy.specs.Right.{RightStep}
use Rattle.policy.proofs.Answer.{answer-tripped}
use Rattle.policy.proofs.Simple.{opening-right, count-right, same-right, ignoring-right}
use Rattle.policy.proofs.Pairs.{both_right, either-right}
use Rattle.policy.proofs.Before.{before-right}
use Rattle.policy.proofs.After.{after-right}
use Rattle.policy.proofs.Fulfilling.{fulfilling-right}
use Rattle.policy.proofs.Copies.{copied-right}

pub rule-right : (rule : Rule Part) → SoundRule rule → RightStep rule
rule-right (opening-r hit) s = opening-right hit
rule-right (count-r k) s = count-right k s.positive
rule-right (same-r f) s = same-right f
rule-right (both_r f g) s = both_right f g
rule-right (either_r f g) s = either-right f g
rule-right (copied-r f) s = copied-right s.closed.0 f s.closed.1
rule-right (before-r f g) s = before-right f g
rule-right (after-r f g) s = after-right f g
rule-right (fulfilling-r k f g h) s = fulfilling-right k f g h
rule-right (ignoring-r hit f) s = ignoring-right hit f

module _ (rule : Rule Part) (sound : SoundRule rule) where
  -- reading a sequence from the start
  pub steps-right : (w : List ℕ) → run (step_of rule) (go (start rule)) w ≡ answer (rule_trips (on_parts part_trips rule) w) (remembered rule w)
  steps-right = (rule-right rule sound).right

  pub steps-trip : (w : List ℕ) → trips (step_of rule) (start rule) w ≡ rule_trips (on_parts part_trips rule) w
  steps-trip w = ap tripped (steps-right w) ∙ answer-tripped (rule_trips (on_parts part_trips rule) w) (remembered rule w)

  -- After a sequence that has not tripped, the next action trips the step exactly when it trips the rule, and otherwise gives the value of
  -- the longer sequence.
  pub step_right : (w : List ℕ) (a : ℕ) → rule_trips (on_parts part_trips rule) w ≡ false
      → step_of rule (remembered rule w) a
      ≡ answer (rule_trips (on_parts part_trips rule) (w ++ (a ∷ []))) (remembered rule (w ++ (a ∷ [])))
  step_right w a e =
      sym (ap (λ (m : Move (Value rule)). after m (λ v. step_of rule v a)) at_value)
      ∙ sym (run-append (step_of rule) (go (start rule)) w (a ∷ []))
      ∙ steps-right (w ++ (a ∷ []))
    where
      at_value : run (step_of rule) (go (start rule)) w ≡ go (remembered rule w)
      at_value = steps-right w ∙ ap (λ (b : Bool). answer b (remembered rule w)) e
