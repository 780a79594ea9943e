-- What the steps of a rule are proved for: parts whose rows are few and closed under their moves; and what a step must answer.
-- Assumes nothing.
use Rattle.std.specs.Prelude.{Bool, true, false, ℕ, ◌≤◌, ◌<◌}
use Rattle.trace.specs.Trace.{Move, trip, go}
use Rattle.policy.specs.Rule.{Rule}
use Rattle.policy.specs.Parts.{AllParts, Positive}
use Rattle.policy.specs.Value.{Part}

-- A move stays among n rows.
abbrev pub Below : ℕ → Move ℕ → Type 0
Below n trip = Unit {0}
Below n (go r) = r < n

-- A part has n rows, 1 to 64, and its moves stay among them.
pub record Closed (n : ℕ) (f : Part) : Type 0 where
  pub pos : 0 < n
  pub few : n ≤ 64
  pub stay : (r a : ℕ) → r < n → Below n (f r a)

-- A rule whose parts are closed and whose count is 1 or more.
pub record SoundRule (rule : Rule Part) : Type 0 where
  pub positive : Positive rule
  pub closed : AllParts (λ f. (n : ℕ) × Closed n f) rule

-- A sequence that has tripped is a trip; of any other the value is what is remembered.
abbrev pub answer : {Y : Type 0} → Bool → Y → Move Y
answer true v = trip
answer false v = go v
