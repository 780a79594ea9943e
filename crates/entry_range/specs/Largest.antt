-- The entries' largest, by which their range is tested.
-- Assumes nothing.
use Rattle.std.specs.Prelude.{cond, List, ℕ, ◌+◌, ◌≤◌, ◌<◌, eqb, get_or}

-- One past an entry, and 0 for a trip.
abbrev pub one_past : ℕ → ℕ
one_past e = cond (eqb e 255) 0 (e + 1)

-- The largest of one past each of the first k entries.
pub record Largest (entries : List ℕ) (k top : ℕ) : Type 0 where
  pub above : (j : ℕ) → j < k → one_past (get_or entries j 255) ≤ top
  pub least : (m : ℕ) → ((j : ℕ) → j < k → one_past (get_or entries j 255) ≤ m) → top ≤ m
