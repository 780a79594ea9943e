-- The words of a board's places, and their bytes one after the other.
-- Assumes nothing.
use mathlib.Core.Path.{◌≡◌, refl, ap₂}
use mathlib.Core.List.{List, ◌++◌}
use Prim.Native.Nat.{ℕ, zero, suc, ◌+◌, ◌<◌}
use native.Mathlib.Decide.{ℕ_discrete}
use native.Mathlib.Omega.{arith}
use lib.ListN.{length, get_or, set}
use lib.Seq.{get_or-set_same, get_or-set_other}
use Rattle.base.specs.Build.{joined}
use Rattle.base.specs.Word.{word_bytes}
use Rattle.places.specs.Layout.{place_count}
use Rattle.places.specs.Places.{case_in, case_at}
use Rattle.places.specs.declared.Place.{Place}
use Rattle.places.specs.declared.Board.{Board}
use Rattle.records.specs.Record.{place_record, WordsTo, record_of}

-- one word more
pub words_more : (places : List Place) (words : List ℕ) (n word : ℕ) → n < length words → WordsTo places n words
    → word_bytes word ≡ place_record (case_in places n) → WordsTo places (n + 1) (set words n word)
words_more places words n word long before e = λ i h. at i h (ℕ_discrete i n)
  where
    at : (i : ℕ) → i < n + 1 → Dec (i ≡ n) → word_bytes (get_or (set words n word) i 0) ≡ place_record (case_in places i)
    at i h (yes p) = rw (p, get_or-set_same words n word 0 long) e
    at i h (no q) = rw (get_or-set_other words n i word 0 q) (before i (omega arith))

-- the bytes of the first n words
abbrev pub bytes_of : List ℕ → ℕ → List ℕ
bytes_of words n = joined n (λ i. word_bytes (get_or words i 0))

joined_same : (f g : ℕ → List ℕ) (n : ℕ) → ((i : ℕ) → i < n → f i ≡ g i) → joined n f ≡ joined n g
joined_same f g zero same = refl
joined_same f g (suc n) same = ap₂ ◌++◌ (joined_same f g n (λ i h. same i (omega arith))) (same n (omega arith))

-- the words of all places give the record
pub record-of-words : (board : Board) (words : List ℕ) → WordsTo board.places place_count words → bytes_of words place_count ≡ record_of board
unfolding record_of
record-of-words board words same = joined_same (λ i. word_bytes (get_or words i 0)) (λ i. place_record (case_at board i)) place_count same
