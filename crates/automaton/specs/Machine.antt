-- A deterministic machine as a flat list of next states: entry s * actions + a is where action a leads from state s, or the mark, a trip.
-- A table's rows are such a machine; a table's row is a state.
-- Assumes nothing.
use Rattle.std.specs.Prelude.{◌≡◌, Bool, true, false, List, ℕ, ◌+◌, ◌*◌, ◌≤◌, ◌<◌, eqb, length, get_or}
use Rattle.trace.specs.Trace.{Move, trip, go, Step, Alike}

-- An entry's move, by whether it is the mark.
abbrev pub move_by : Bool → ℕ → Move ℕ
move_by true e = trip
move_by false e = go e

abbrev pub entry_move : (mark e : ℕ) → Move ℕ
entry_move mark e = move_by (eqb e mark) e

-- The transition function: an action's entry in the present state is the next state, and the mark a trip.
abbrev pub transition : (mark actions : ℕ) → List ℕ → Step ℕ
transition mark actions next s a = entry_move mark (get_or next (s * actions + a) mark)

-- Two states of one machine are alike.
abbrev pub AlikeStates : (mark actions : ℕ) → List ℕ → ℕ → ℕ → Type 0
AlikeStates mark actions next s t = Alike actions (transition mark actions next) s (transition mark actions next) t

-- A machine: as many entries as states times actions, each a state's number or the mark, which is no state's number.
pub record Machine (mark states actions : ℕ) (next : List ℕ) : Type 0 where
  pub sized : length next ≡ states * actions
  pub marked : states ≤ mark
  pub closed : (k : ℕ) → k < states * actions → (get_or next k mark ≡ mark → ⊥) → get_or next k mark < states

-- State s is met at entry `at`, which stands in a state before s, so s is met before it is read; every state met earlier has a lower number.
pub record FirstMet (mark actions : ℕ) (next : List ℕ) (s : ℕ) : Type 0 where
  pub at : ℕ
  pub here : get_or next at mark ≡ s
  pub early : at < s * actions
  pub new : (j : ℕ) → j < at → (get_or next j mark ≡ mark → ⊥) → get_or next j mark < s

-- The stated numbering (canonical numbering): state 0 is the start, and the others are numbered as first met, reading the states
-- from 0 up and each from action 0 up. Each is met, and met before it is read.
pub record Numbered (mark states actions : ℕ) (next : List ℕ) : Type 0 where
  pub met : (s : ℕ) → 0 < s → s < states → FirstMet mark actions next s

-- No two states are alike.
pub record Distinct (mark states actions : ℕ) (next : List ℕ) : Type 0 where
  pub apart : (s t : ℕ) → s < states → t < states → AlikeStates mark actions next s t → s ≡ t
