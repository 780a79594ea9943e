-- What the exported compiler returns, and what it leaves in the areas lent to it.
-- Assumes nothing.
use Rattle.std.specs.Prelude.{◌≡◌, List, ℕ}
use Rattle.table.specs.Answer.{Answer}
use Rattle.compiler.specs.Calling.{CompilesInto}
use Rattle.answers.specs.Numbers.{packed_answer}

-- The number of what the compiler answers, with the table, the bytes and the numbers that it leaves.
pub record CompileReturns (sheet out work values : List ℕ) (returned : ℕ) (out' work' values' : List ℕ) : Type 0 where
  pub answer : Answer
  pub compiles : CompilesInto sheet out work values answer out' work' values'
  pub number : returned ≡ packed_answer answer
