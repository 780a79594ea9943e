-- Numbers in bytes.
-- Assumes nothing.
use Rattle.std.specs.Prelude.{ℕ, ◌+◌, ◌*◌, List, get_or}

-- the 16-bit number at i, low byte first; bytes past the end count as 0
abbrev pub sheet_word : List ℕ → ℕ → ℕ
sheet_word bytes i = get_or bytes i 0 + 256 * get_or bytes (i + 1) 0
