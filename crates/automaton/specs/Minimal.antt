-- The rows of a property of sequences: the minimal deterministic machine that trips where the property holds, in canonical numbering.
-- Assumes nothing.
use Rattle.std.specs.Prelude.{◌≡◌, Bool, List, ℕ, ◌≤◌}
use Rattle.trace.specs.Trace.{Sequence, trips}
use Rattle.automaton.specs.Machine.{transition, Machine, Numbered, Distinct}

-- A machine of `rows` rows with mark 255, in the stated numbering, no two rows alike, that trips on the sequences that are `tripped`.
pub record RowsOf (actions : ℕ) (tripped : List ℕ → Bool) (rows : ℕ) (entries : List ℕ) : Type 0 where
  pub low : 1 ≤ rows
  pub machine : Machine 255 rows actions entries
  pub numbered : Numbered 255 rows actions entries
  pub distinct : Distinct 255 rows actions entries
  pub reads : (w : List ℕ) → Sequence actions w → trips (transition 255 actions entries) 0 w ≡ tripped w
