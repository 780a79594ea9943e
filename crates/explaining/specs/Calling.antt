-- The public call: its answer in the numbers of docs/FORMATS.md, "Refusals", and every byte of the lent areas.
-- Assumes nothing.
use Rattle.std.specs.Prelude.{List, [], ◌∷◌, ℕ, Option, Some, None, Result, Ok, Err}
use Rattle.limits.specs.Limits.{largest}
use Rattle.making.specs.Making.{AnswersInto}
use Rattle.compiler.specs.Refusals.{number_of_refusal, spot_of_refusal}
use Rattle.explaining.specs.Explains.{Explanation, no-denial, denied, refused, Explains}
use Rattle.explaining.specs.declared.Denial.{Denial}
use Rattle.explaining.specs.declared.ExplainError.{ExplainError}
use Rattle.explaining.specs.declared.ExplainError.TheVariants.{ShortArea, Refused, WatchedSheet, NoAction}

abbrev pub answer_of : Result (Option Denial) ExplainError → Explanation
answer_of (Ok None) = no-denial
answer_of (Ok (Some denial)) = denied denial.place denial.node
answer_of (Err ShortArea) = refused 14 0
answer_of (Err (Refused r)) = refused (number_of_refusal r) (spot_of_refusal r)
answer_of (Err WatchedSheet) = refused 34 0
answer_of (Err NoAction) = refused 12 0

-- The public call: the answer, and every byte of the lent areas. The place of a denial is the first number of the output, which has at least one.
abbrev pub ExplainsInto : (bytes list out work values : List ℕ) → Explanation → List ℕ → List ℕ → List ℕ → Type 0
ExplainsInto bytes list out work values = AnswersInto 1 (refused 14 0) (Explains bytes list largest) out work values

-- What is written: the place of a denial.
abbrev pub place_of : Result (Option Denial) ExplainError → List ℕ
place_of (Ok None) = []
place_of (Ok (Some denial)) = denial.place ∷ []
place_of (Err e) = []
