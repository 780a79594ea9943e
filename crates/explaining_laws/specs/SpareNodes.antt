-- What two sheets with the same used nodes give for one list of actions: no denial, one place and one node, or one refusal number.
-- Assumes nothing.
use Rattle.std.specs.Prelude.{List, [], ◌∷◌, ℕ, ◌<◌, drop}
use Rattle.explaining.specs.Explains.{Explanation, no-denial, denied, refused}

-- Two explanations, each with what is written: the same but for the node, which goes by its own number in its own sheet.
pub data SameExplanation (to : ℕ → ℕ) : Explanation → List ℕ → Explanation → List ℕ → Type 0 where
  both-none : SameExplanation to no-denial [] no-denial []
  both-denied : (place node : ℕ) → SameExplanation to (denied place node) (place ∷ []) (denied place (to node)) (place ∷ [])
  -- 1 to 9, at one node
  same_number : (number spot : ℕ) → number < 10 → SameExplanation to (refused number spot) [] (refused number (to spot)) []
  both-watched : SameExplanation to (refused 34 0) [] (refused 34 0) []
  both-outside : SameExplanation to (refused 12 0) [] (refused 12 0) []

-- Two calls, each with its answer and its output, which was `out`, and `lent`: the same place at the front of both, or outputs that are left.
pub data SameExplained (to : ℕ → ℕ) (out lent : List ℕ) : Explanation → List ℕ → Explanation → List ℕ → Type 0 where
  none_left : SameExplained to out lent no-denial out no-denial lent
  place-first : (place node : ℕ) → SameExplained to out lent (denied place node) (place ∷ drop 1 out) (denied place (to node)) (place ∷ drop 1 lent)
  number-left : (number spot : ℕ) → number < 10 → SameExplained to out lent (refused number spot) out (refused number (to spot)) lent
  watched-left : SameExplained to out lent (refused 34 0) out (refused 34 0) lent
  outside-left : SameExplained to out lent (refused 12 0) out (refused 12 0) lent
