-- The limits on a machine's values and rows, and their ranges.
-- Assumes nothing.
use Rattle.std.specs.Prelude.{ℕ, ◌≤◌}
use Rattle.limits.specs.declared.Limits.{Limits}

-- The highest limits: 1,024 values and 64 rows.
abbrev pub largest : Limits
largest = record { values = 1024; rows = 64 }

pub record ValueLimit (limit : ℕ) : Type 0 where
  pub low : 1 ≤ limit
  pub high : limit ≤ largest.values

pub record RowLimit (limit : ℕ) : Type 0 where
  pub low : 1 ≤ limit
  pub high : limit ≤ largest.rows

-- Limits in their ranges.
pub record InRange (limits : Limits) : Type 0 where
  pub value : ValueLimit limits.values
  pub row : RowLimit limits.rows
