-- Several tables read together: where they trip, what is remembered of a sequence, and when a limit is passed.
-- Assumes nothing.
use Rattle.std.specs.Prelude.{Bool, false, ◌||◌, List, [], ◌∷◌, ℕ}
use Rattle.trace.specs.Trace.{Move, go, run, trips}
use Rattle.trace.specs.Limits.{ManyValues, ManyRows}
use Rattle.table.specs.Table.{row_step}

-- At least one of the tables trips.
abbrev pub some_trips : List (List ℕ) → List ℕ → Bool
some_trips [] w = false
some_trips (table ∷ tables) w = trips (row_step table) 0 w || some_trips tables w

-- The row of each table after a sequence. It is remembered of sequences that none has tripped.
abbrev pub rows_after : List (List ℕ) → List ℕ → List (Move ℕ)
rows_after [] w = []
rows_after (table ∷ tables) w = run (row_step table) (go 0) w ∷ rows_after tables w

-- 8: more than `limit` different tuples of rows, counted over all sequences that no table has tripped.
abbrev pub OverTuples : (actions : ℕ) → List (List ℕ) → ℕ → Type 0
OverTuples actions tables limit = ManyValues actions (some_trips tables) (rows_after tables) limit

-- 9: more than `limit` rows are needed: more than `limit` sequences that no table has tripped, no two of which share a row.
abbrev pub OverJoinedRows : (actions : ℕ) → List (List ℕ) → ℕ → Type 0
OverJoinedRows actions tables limit = ManyRows actions (some_trips tables) limit
