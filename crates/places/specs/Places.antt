-- The board's places.
-- Assumes nothing.
use Rattle.std.specs.Prelude.{Bool, true, false, List, ℕ, get_or, set}
use Rattle.base.specs.Build.{filled}
use Rattle.places.specs.Layout.{place_count}
use Rattle.places.specs.declared.Case.{Case}
use Rattle.places.specs.declared.Case.TheVariants.{Empty, Enforced, Watched, Fulfilled}
use Rattle.places.specs.declared.Place.{Place}
use Rattle.places.specs.declared.Board.{Board}

-- A board is made of places, or from another by giving it other places. A board is built in no other way.
abbrev pub from_places : List Place → Board
from_places places = record { places = places }

abbrev pub with_places : Board → List Place → Board
with_places board places = record { places = places }

-- A place in a case.
abbrev pub place_in : Case → Place
place_in case = record { case = case }

-- The case of place i; beyond the last place it is empty.
abbrev pub case_in : List Place → ℕ → Case
case_in places i = (get_or places i (place_in Empty)).case

abbrev pub case_at : Board → ℕ → Case
case_at board = case_in board.places

abbrev pub taken : Case → Bool
taken Empty = false
taken (Enforced row) = true
taken (Watched row) = true
taken Fulfilled = true

-- The board with another case at place i.
abbrev pub with_case : Board → ℕ → Case → Board
with_case board i c = with_places board (set board.places i (place_in c))

-- The places of which the first n have these cases; the others are empty.
abbrev pub places_by : ℕ → (ℕ → Case) → List Place
places_by n cases = filled place_count (place_in Empty) (λ i before. place_in (cases i)) n

-- All places empty.
abbrev pub empty_board : Board
empty_board = from_places (places_by 0 (λ i. Empty))
