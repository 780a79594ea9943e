-- Truths, as they are kept: whether a node is satisfied.
-- Assumes nothing.
use Rattle.std.specs.Prelude.{ℕ, ◌+◌, ◌*◌, Bool, false, cond, List, ltb, get_or, set}

-- The truth of node n on the sequence, or action, s. There are 64 nodes and 2,048 sequences.
abbrev pub truth_at : List Bool → (n s : ℕ) → Bool
truth_at truths n s = cond (ltb 63 n) false (cond (ltb 2047 s) false (get_or truths (2048 * n + s) false))

-- The truths with this one kept.
abbrev pub kept : List Bool → (n s : ℕ) → Bool → List Bool
kept truths n s holds = cond (ltb 63 n) truths (cond (ltb 2047 s) truths (set truths (2048 * n + s) holds))
