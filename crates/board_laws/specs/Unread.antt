-- Two areas that differ only where no call reads: outside the tables of the taken places.
-- Assumes nothing.
use Rattle.std.specs.Prelude.{◌≡◌, true, List, ℕ}
use Rattle.places.specs.Layout.{LongEnough, stored_at}
use Rattle.places.specs.Places.{case_at, taken}
use Rattle.places.specs.declared.Board.{Board}

-- Both are long enough, and have the same table at the front of each taken place.
pub record SameHeldTables (board : Board) (area other : List ℕ) : Type 0 where
  pub whole : LongEnough area
  pub other-whole : LongEnough other
  pub same : (i : ℕ) → taken (case_at board i) ≡ true → stored_at area i ≡ stored_at other i
