-- When the step of a rule is right: read from the start, a sequence that trips the rule trips the step, and any other leads to what is
-- remembered of it.
-- Assumes nothing.
use Rattle.std.specs.Prelude.{◌≡◌, List, ℕ}
use Rattle.trace.specs.Trace.{go, run}
use Rattle.policy.specs.Rule.{Rule, on_parts, rule_trips}
use Rattle.policy.specs.Value.{Part, part_trips, remembered, start, step_of}
use Rattle.policy.specs.Closed.{answer}

pub record RightStep (rule : Rule Part) : Type 0 where
  pub right : (w : List ℕ) → run (step_of rule) (go (start rule)) w ≡ answer (rule_trips (on_parts part_trips rule) w) (remembered rule w)
