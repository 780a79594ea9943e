-- Two properties that agree on the sequences of some actions.
-- Assumes nothing.
use Rattle.std.specs.Prelude.{◌≡◌, List, ℕ}
use Rattle.trace.specs.Trace.{Sequence}
use Rattle.policy.specs.Operators.{Property}

abbrev pub Agree : ℕ → Property → Property → Type 0
Agree actions P Q = (w : List ℕ) → Sequence actions w → P w ≡ Q w
