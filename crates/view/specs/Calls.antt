-- The calls on a board and its area: the step on what they hold, with its change made in both.
-- Assumes nothing.
use Rattle.std.specs.Prelude.{◌≡◌, List, ◌++◌, ℕ, drop, replicate}
use Rattle.places.specs.Layout.{place_count, area_length, LongEnough}
use Rattle.places.specs.Places.{empty_board}
use Rattle.places.specs.declared.Board.{Board}
use Rattle.view.specs.View.{view_of, Change, board_after, area_after}
use Rattle.view.specs.Possible.{Possible}
use Rattle.view.specs.Steps.{Call, Reply, done, input, Check, Passes, CallStep}

-- Check 25: a board with so many places and its area can be.
abbrev pub CanBe : (places : ℕ) → Board → List ℕ → Type 0
CanBe places board area = Possible places (view_of board area)

-- What a check asks of a board and its area.
abbrev pub PassesOn : Board → List ℕ → Check → Type 0
PassesOn board area = Passes (LongEnough area) (CanBe place_count board area) place_count (view_of board area)

-- A call with so many places, whatever 25 asks: 14 is for an area that is too short, and 25 where what `Can` says does not hold.
pub record CallsWith (places : ℕ) (Can : Type 0) (board : Board) (area : List ℕ) (call : Call) (reply : Reply) (next : Board) (rest : List ℕ) : Type 0 where
  pub change : Change
  pub step : CallStep (LongEnough area) Can places (view_of board area) call reply change
  pub board-is : next ≡ board_after change board
  pub area-is : rest ≡ area_after change area

-- A call: the answer, and the board and the area that it leaves.
abbrev pub Calls : (board : Board) (area : List ℕ) → Call → Reply → Board → List ℕ → Type 0
Calls board area = CallsWith place_count (CanBe place_count board area) board area

-- New board. Beside a refusal the board is empty, and the area is unchanged.
pub data Makes (area : List ℕ) : Reply → Board → List ℕ → Type 0 where
  made : LongEnough area → Makes area done empty_board (replicate area_length 0 ++ drop area_length area)
  make-14 : (LongEnough area → ⊥) → Makes area (input 14 0) empty_board area
