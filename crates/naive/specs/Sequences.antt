-- The numbers of sequences.
-- Assumes nothing.
use Rattle.std.specs.Prelude.{cond, List, ℕ, zero, suc, ◌+◌, ◌*◌, ◌%◌, min, ltb, get_or}

-- the sequence s and then an action; 2,048 stands for all that are not judged
abbrev pub stepped : (s action actions : ℕ) → ℕ
stepped s action actions = cond (ltb 2047 s) 2048 (min ((actions % 65536) * (s % 65536) + action % 256 + 1) 2048)

-- the number of the first k letters
unfoldable pub number_to : List ℕ → (actions : ℕ) → ℕ → ℕ
number_to letters actions zero = 0
number_to letters actions (suc k) = stepped (number_to letters actions k) (get_or letters k 0) actions
