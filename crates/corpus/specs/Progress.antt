-- How far a corpus has been run.
-- Assumes nothing.
use Rattle.std.specs.Prelude.{◌≡◌, ℕ, ◌+◌, ◌-◌, ◌<◌, ◌≤◌, Bool, true, cond, Option, Some, None}

-- one record more: fewer are left, none where it was not all there, and it counts as done where it was
pub record Behind (left done : ℕ) (whole : Bool) (next-left next-done : ℕ) : Type 0 where
  pub lefts : next-left ≡ cond whole (left - 1) 0
  pub dones : next-done ≡ cond whole (done + 1) done
  pub fewer : next-left < left
  pub within : next-done + next-left ≤ done + left

-- no record is left: where all that was to be there was, each one that was left counts as done, else no more than these
pub record BehindAll (left done next-left next-done : ℕ) (whole : Bool) : Type 0 where
  pub none : next-left ≡ 0
  pub before : done ≤ next-done
  pub within : next-done ≤ done + left
  pub all : whole ≡ true → next-done ≡ done + left

-- how many records disagree: the one on which something does, and none that was cut off
abbrev pub disagreeing : Option Bool → ℕ
disagreeing (Some agreed) = cond agreed 0 1
disagreeing None = 0
