-- How an area holds the tables of a board: a part of one length for each place, the table at its front and zeros after it.
-- Assumes nothing.
use Rattle.std.specs.Prelude.{List, ◌++◌, ℕ, ◌+◌, ◌*◌, ◌-◌, ◌≤◌, ◌<◌, length, take, drop, replicate}
use Rattle.table.specs.Table.{largest_table, front_table}

-- How many places a board has, how long the part of a place is, the length of the largest table, and so the area.
abbrev pub place_count : ℕ
place_count = 8

abbrev pub place_length : ℕ
place_length = largest_table

abbrev pub area_length : ℕ
area_length = place_count * place_length

-- The area is long enough.
abbrev pub LongEnough : List ℕ → Type 0
LongEnough area = area_length ≤ length area

-- A place in an area that is long enough.
pub record Within (area : List ℕ) (place : ℕ) : Type 0 where
  pub whole : LongEnough area
  pub below : place < place_count

-- Where the part of place i starts, its bytes, and the table at their front.
abbrev pub start_of : ℕ → ℕ
start_of i = i * place_length

abbrev pub place_bytes : List ℕ → ℕ → List ℕ
place_bytes area i = take place_length (drop (start_of i) area)

abbrev pub stored_at : List ℕ → ℕ → List ℕ
stored_at area i = front_table (place_bytes area i)

-- The area with other bytes at place i: they stand at its front, and the rest of the place is zero.
abbrev pub with_bytes : List ℕ → ℕ → List ℕ → List ℕ
with_bytes area i bytes = take (start_of i) area ++ ((bytes ++ replicate (place_length - length bytes) 0) ++ drop (start_of i + place_length) area)
