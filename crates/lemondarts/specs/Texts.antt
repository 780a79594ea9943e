-- What the exported reader of rule texts returns, and what it leaves in the output.
-- Assumes nothing.
use Rattle.std.specs.Prelude.{◌≡◌, List, ℕ}
use Rattle.parser.specs.Calling.{TextAnswer, ReadsInto}
use Rattle.answers.specs.Texts.{packed_text}

-- The number of what the reader answers, with the output that it leaves.
pub record TextReturns (text actions sheet : List ℕ) (returned : ℕ) (sheet' : List ℕ) : Type 0 where
  pub answer : TextAnswer
  pub reads : ReadsInto text actions sheet answer sheet'
  pub number : returned ≡ packed_text answer
