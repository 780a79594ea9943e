-- What a board holds, apart from how an area holds it: the case and the table of each place. The calls are stated over it.
-- Assumes nothing.
use Rattle.std.specs.Prelude.{cond, List, [], ℕ, eqb}
use Rattle.places.specs.Layout.{place_count, stored_at, with_bytes}
use Rattle.places.specs.Places.{case_in, taken, with_places, with_case, places_by}
use Rattle.places.specs.declared.Case.{Case}
use Rattle.places.specs.declared.Case.TheVariants.{Empty}
use Rattle.places.specs.declared.Place.{Place}
use Rattle.places.specs.declared.Board.{Board}

-- For each place its case and its table, [] where it is empty.
pub record View : Type 0 where
  pub case : ℕ → Case
  pub table : ℕ → List ℕ

-- No rule is on.
abbrev pub empty_view : View
empty_view = record { case = λ i. Empty; table = λ i. [] }

-- The view of a board and its area. The bytes of an empty place are not in it.
abbrev pub held : Case → List ℕ → List ℕ
held case stored = cond (taken case) stored []

abbrev pub view_in : List Place → List ℕ → View
view_in places area = record { case = case_in places; table = λ i. held (case_in places i) (stored_at area i) }

abbrev pub view_of : Board → List ℕ → View
view_of board area = view_in board.places area

-- What a call changes: nothing, the case and the table of one place, or the case of every place.
pub data Change : Type 0 where
  stays : Change
  sets : (place : ℕ) (case : Case) (table : List ℕ) → Change
  moves : (next : ℕ → Case) → Change

abbrev pub view_after : Change → View → View
view_after stays view = view
view_after (sets place case table) view =
    record { case = λ i. cond (eqb place i) case (view.case i); table = λ i. cond (eqb place i) table (view.table i) }
view_after (moves next) view = record { case = next; table = view.table }

-- The same on a board and its area.
abbrev pub board_after : Change → Board → Board
board_after stays board = board
board_after (sets place case table) board = with_case board place case
board_after (moves next) board = with_places board (places_by place_count next)

abbrev pub area_after : Change → List ℕ → List ℕ
area_after stays area = area
area_after (sets place case table) area = with_bytes area place table
area_after (moves next) area = area
