-- What the exported call that joins returns, and what it leaves in the areas lent to it.
-- Assumes nothing.
use Rattle.std.specs.Prelude.{◌≡◌, List, ℕ}
use Rattle.table.specs.Answer.{Answer}
use Rattle.joining.specs.Calling.{JoinsInto}
use Rattle.answers.specs.Numbers.{packed_answer}

-- The number of what joining answers, with the table, the bytes and the numbers that it leaves.
pub record JoinReturns (count : ℕ) (tables out work values : List ℕ) (returned : ℕ) (out' work' values' : List ℕ) : Type 0 where
  pub answer : Answer
  pub joins : JoinsInto count tables out work values answer out' work' values'
  pub number : returned ≡ packed_answer answer
