-- Which nodes are used.
-- Assumes nothing.
use Rattle.std.specs.Prelude.{ℕ, ◌≡◌, Bool, true, false, List, get_or}

-- more nodes are marked, and each that was stays so
pub record MoreMarked (before after : List Bool) : Type 0 where
  pub kept : (i : ℕ) → get_or before i false ≡ true → get_or after i false ≡ true
