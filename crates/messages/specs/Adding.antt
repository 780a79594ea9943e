-- A piece is added to a text in a lent area, behind its first `at` bytes; what has no room is cut off.
-- Assumes nothing.
use Rattle.std.specs.Prelude.{◌≡◌, List, ◌++◌, ℕ, length, take}

pub record Adds (old : List ℕ) (at : ℕ) (piece new : List ℕ) (end : ℕ) : Type 0 where
  pub sized : length new ≡ length old
  pub so_far : take end new ≡ take (length old) (take at old ++ piece)
