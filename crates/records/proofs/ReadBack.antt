-- Reading back the bytes of a board gives the same board.
-- Assumes nothing.
use mathlib.Core.Path.{◌≡◌, refl, sym, ◌∙◌, ap, ap₂}
use mathlib.Core.List.{List, ◌++◌}
use Prim.Native.Nat.{ℕ, ◌+◌, ◌*◌, ◌≤◌, ◌<◌}
use native.Mathlib.Omega.{arith}
use lib.ListN.{length, get_or, drop, length-append, length-drop, get_or-append}
use lib.Seq.{ext_get_or, sets}
use Rattle.base.proofs.Joined.{length-joined, get_or-joined}
use Rattle.base.proofs.Filled.{filled_at}
use Rattle.base.proofs.Lists.{sets-front}
use Rattle.places.specs.Places.{place_in, from_places, case_at}
use Rattle.places.specs.declared.Case.{Case}
use Rattle.places.specs.declared.Case.TheVariants.{Empty, Enforced, Watched, Fulfilled}
use Rattle.places.specs.declared.Place.{Place}
use Rattle.places.specs.declared.Board.{Board}
use Rattle.places.specs.Layout.{place_count}
use Rattle.records.specs.Record.{place_record_length, record_length, case_of, recorded_place, place_at, board_of, case_byte, row_byte, place_record, bytes_to, record_of, written}

-- one place
case-back : (c : Case) → case_of (case_byte c) (row_byte c) ≡ c
case-back Empty = refl
case-back (Enforced row) = refl
case-back (Watched row) = refl
case-back Fulfilled = refl

pub place-back : (p : Place) → recorded_place (case_byte p.case) (row_byte p.case) ≡ p
place-back p = ap place_in (case-back p.case)

pub eight-places : (bytes : List ℕ) → length (board_of bytes).places ≡ place_count
unfolding board_of
eight-places bytes = refl

pub place-of-board : (bytes : List ℕ) (i : ℕ) → i < place_count → get_or (board_of bytes).places i (place_in Empty) ≡ place_at bytes i
unfolding board_of
place-of-board bytes i h = filled_at place_count (place_in Empty) (λ i before. place_at bytes i) place_count i h (omega arith)

module _ (board : Board) where
  length-bytes : (n : ℕ) → length (bytes_to board n) ≡ place_record_length * n
  length-bytes = length-joined place_record_length (λ i. place_record (case_at board i)) (λ i. refl)

  pub length-record : length (record_of board) ≡ record_length
  unfolding record_of
  length-record = length-bytes place_count

  -- all places stored
  pub bytes-all : (l : List ℕ) → record_length ≤ length l → sets l 0 (record_of board) ≡ written board l
  bytes-all l h = sets-front l (record_of board) (omega (arith, length-record)) ∙ ap (λ (n : ℕ). record_of board ++ drop n l) length-record

  module _ (bytes : List ℕ) where
    pub length-written : record_length ≤ length bytes → length (written board bytes) ≡ length bytes
    length-written long = omega (arith, length-append (record_of board) (drop record_length bytes), length-record, length-drop record_length bytes)

    byte-back : (i j : ℕ) → i < place_count → j < place_record_length → get_or (written board bytes) (place_record_length * i + j) 0 ≡ get_or (place_record (case_at board i)) j 0
    unfolding record_of
    byte-back i j h g =
        get_or-append (record_of board) (drop record_length bytes) 0 (place_record_length * i + j) (omega (arith, length-record))
        ∙ get_or-joined place_record_length (λ k. place_record (case_at board k)) (λ k. refl) place_count i j h g

    place-at-back : (i : ℕ) → i < place_count → place_at (written board bytes) i ≡ get_or board.places i (place_in Empty)
    place-at-back i h =
        let e : place_record_length * i ≡ place_record_length * i + 0 = omega arith in
        ap₂ recorded_place (ap (λ (n : ℕ). get_or (written board bytes) n 0) e ∙ byte-back i 0 h (omega arith)) (byte-back i 1 h (omega arith))
        ∙ place-back (get_or board.places i (place_in Empty))

    pub read-back : length board.places ≡ place_count → board_of (written board bytes) ≡ board
    read-back eight =
        ap from_places
        (ext_get_or (place_in Empty) (board_of (written board bytes)).places board.places (eight-places (written board bytes) ∙ sym eight)
        (λ i h. at i (omega (arith, eight-places (written board bytes)))))
      where
        at : (i : ℕ) → i < place_count → get_or (board_of (written board bytes)).places i (place_in Empty) ≡ get_or board.places i (place_in Empty)
        at i h = place-of-board (written board bytes) i h ∙ place-at-back i h
