-- How far a text is read: in words, nodes, and what is to come.
-- Assumes nothing.
use Rattle.std.specs.Prelude.{ℕ, ◌+◌, ◌≤◌, ◌<◌}

-- Few enough to count on.
pub record Few (words nodes depth : ℕ) : Type 0 where
  pub words-few : words < 65000
  pub nodes-few : nodes < 65000
  pub depth-few : depth < 65000

-- At most one word more is read.
pub record OneMore (words nodes depth words' nodes' depth' : ℕ) : Type 0 where
  pub words_more : words' ≤ words + 1
  pub nodes-more : nodes' ≤ nodes + 1
  pub depth-more : depth' ≤ depth + 3
