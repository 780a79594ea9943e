-- What the exported call that explains returns, and what it leaves in the areas lent to it.
-- Assumes nothing.
use Rattle.std.specs.Prelude.{◌≡◌, List, ℕ}
use Rattle.explaining.specs.Explains.{Explanation}
use Rattle.explaining.specs.Calling.{ExplainsInto}
use Rattle.answers.specs.Explanations.{packed_explanation}

-- The number of what explaining answers, with the place, the bytes and the numbers that it leaves.
pub record ExplainReturns (sheet list place work values : List ℕ) (returned : ℕ) (place' work' values' : List ℕ) : Type 0 where
  pub answer : Explanation
  pub explains : ExplainsInto sheet list place work values answer place' work' values'
  pub number : returned ≡ packed_explanation answer
