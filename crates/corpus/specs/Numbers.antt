-- Numbers in bytes.
-- Assumes nothing.
use Rattle.std.specs.Prelude.{ℕ, ◌+◌, ◌*◌, List, slice_index}

-- the 16-bit number at i, low byte first; bytes past the end count as 0
abbrev pub corpus_word : List ℕ → ℕ → ℕ
corpus_word bytes i = slice_index bytes i + 256 * slice_index bytes (i + 1)
