-- A board as a record of bytes, two a place: the case (0 empty, 1 enforced, 2 watched, 3 fulfilled) and the row.
-- Assumes nothing.
use Rattle.std.specs.Prelude.{◌≡◌, cond, List, [], ◌∷◌, ◌++◌, ℕ, ◌+◌, ◌*◌, ◌<◌, eqb, get_or, drop}
use Rattle.base.specs.Build.{filled, joined}
use Rattle.base.specs.Word.{word_bytes}
use Rattle.places.specs.Layout.{place_count}
use Rattle.places.specs.Places.{place_in, from_places, case_in, case_at}
use Rattle.places.specs.declared.Case.{Case}
use Rattle.places.specs.declared.Case.TheVariants.{Empty, Enforced, Watched, Fulfilled}
use Rattle.places.specs.declared.Place.{Place}
use Rattle.places.specs.declared.Board.{Board}

-- The bytes of a place, and those of a record.
abbrev pub place_record_length : ℕ
place_record_length = 2

abbrev pub record_length : ℕ
record_length = place_record_length * place_count

-- Any two bytes are a place. A case byte above 3 is read as an enforced rule at row 255, which no table has. The row byte of an empty or
-- fulfilled place is not read.
abbrev pub case_of : ℕ → ℕ → Case
case_of case row =
    cond (eqb case 0) Empty (cond (eqb case 1) (Enforced row) (cond (eqb case 2) (Watched row) (cond (eqb case 3) Fulfilled (Enforced 255))))

abbrev pub recorded_place : ℕ → ℕ → Place
recorded_place case row = place_in (case_of case row)

-- Place i of a record.
abbrev pub place_at : List ℕ → ℕ → Place
place_at bytes i = recorded_place (get_or bytes (place_record_length * i) 0) (get_or bytes (place_record_length * i + 1) 0)

-- Any bytes are a board: those of its places are read, and zeros where there are fewer.
abbrev pub places_to : List ℕ → ℕ → List Place
places_to bytes n = filled place_count (place_in Empty) (λ i before. place_at bytes i) n

unfoldable pub board_of : List ℕ → Board
board_of bytes = from_places (places_to bytes place_count)

abbrev pub case_byte : Case → ℕ
case_byte Empty = 0
case_byte (Enforced row) = 1
case_byte (Watched row) = 2
case_byte Fulfilled = 3

abbrev pub row_byte : Case → ℕ
row_byte Empty = 0
row_byte (Enforced row) = row
row_byte (Watched row) = row
row_byte Fulfilled = 0

abbrev pub place_record : Case → List ℕ
place_record case = case_byte case ∷ row_byte case ∷ []

-- Numbers of 16 bits whose bytes are those of the first n places.
abbrev pub WordsTo : List Place → ℕ → List ℕ → Type 0
WordsTo places n words = (i : ℕ) → i < n → word_bytes (get_or words i 0) ≡ place_record (case_in places i)

-- The bytes of a board. Reading back what was written gives the same board (proofs/ReadBack.antt).
abbrev pub bytes_to : Board → ℕ → List ℕ
bytes_to board n = joined n (λ i. place_record (case_at board i))

unfoldable pub record_of : Board → List ℕ
record_of board = bytes_to board place_count

-- A board written over the front of a record: what stands behind it is as it was.
abbrev pub written : Board → List ℕ → List ℕ
written board bytes = record_of board ++ drop record_length bytes
