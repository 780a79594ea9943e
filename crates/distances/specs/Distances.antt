-- The distance of a state: the length of the shortest sequence that trips from it, 255 where no sequence of up to 254 actions does. Alike states have
-- one distance, so that refinement begins with the states split by theirs.
-- Assumes nothing.
use Rattle.std.specs.Prelude.{◌≡◌, true, List, ℕ, suc, ◌+◌, ◌*◌, ◌≤◌, ◌<◌, length, get_or}
use Rattle.trace.specs.Trace.{Sequence, trips}
use Rattle.automaton.specs.Machine.{transition}

-- The distance behind an entry: 0 for a trip, and that of the state that it leads to.
abbrev pub behind_entry : (next far : List ℕ) → ℕ → ℕ
behind_entry next far k = get_or far (get_or next k 0) 0

-- One more than the least distance behind the entries from `row` on, at most 255.
pub record OneFurther (next far : List ℕ) (row actions r : ℕ) : Type 0 where
  pub small : r ≤ 255
  pub least : (a : ℕ) → a < actions → r ≤ suc (behind_entry next far (row + a))
  pub found : r < 255 → (a : ℕ) × (a < actions) × (behind_entry next far (row + a) < r)

-- Numbers that are not too small: behind a state with one below 255 some action leads to a smaller one.
pub record NotBelow (actions : ℕ) (next far : List ℕ) : Type 0 where
  pub small : (s : ℕ) → get_or far s 0 ≤ 255
  pub nearer : (s : ℕ) → s < length far → get_or far s 0 < 255 → (a : ℕ) × (a < actions) × (behind_entry next far (s * actions + a) < get_or far s 0)

-- The number of state s is not too large: at most one more than behind each of its entries.
abbrev pub NotAbove : (actions : ℕ) → (next far : List ℕ) → ℕ → Type 0
NotAbove actions next far s = (a : ℕ) → a < actions → get_or far s 0 ≤ suc (behind_entry next far (s * actions + a))

-- The distances of all states.
pub record Distances (actions : ℕ) (next far : List ℕ) : Type 0 where
  pub not-below : NotBelow actions next far
  pub not-above : (s : ℕ) → s < length far → NotAbove actions next far s

-- A sequence of so many actions that trips from a state. `distance-reached` and `distance_least` (proofs/Shortest.antt): a distance below 255 is the
-- length of one, and no sequence that trips is shorter than the distance.
pub record Tripping (mark actions : ℕ) (next : List ℕ) (s count : ℕ) : Type 0 where
  pub sequence : List ℕ
  pub listed : Sequence actions sequence
  pub trips-it : trips (transition mark actions next) s sequence ≡ true
  pub long : length sequence ≡ count

-- Two states have one number.
abbrev pub SameNumber : List ℕ → ℕ → ℕ → Type 0
SameNumber numbers s t = get_or numbers s 0 ≡ get_or numbers t 0
