-- Laws of the area: the bytes of a place as the code cuts them out, and what stands at a place after other bytes were put at one.
-- Assumes nothing.
use mathlib.Core.Path.{◌≡◌, sym, ◌∙◌, ap, ap₂}
use mathlib.Core.List.{List, ◌++◌}
use Prim.Native.Nat.{ℕ, ◌+◌, ◌*◌, ◌-◌, ◌≤◌, ◌<◌, min}
use native.Mathlib.Decide.{dec_lt}
use native.Mathlib.Nat.{add-sub_of_le, mul-le-mul}
use native.Mathlib.Omega.{arith}
use lib.ListN.{length, get_or, take, drop, replicate, length-append, length-take, length-drop, length-replicate, get_or-append}
use lib.Seq.{length-take-le, take_at, drop_at, get_or-append-add, get_or-take, get_or-drop, ext_get_or}
use Rattle.base.specs.Word.{word_at}
use Rattle.table.specs.Table.{WellFormed, table_length, front_table}
use Rattle.places.specs.Layout.{place_count, place_length, start_of, LongEnough, place_bytes, stored_at, with_bytes}

-- a place's bytes as the code cuts them out
pub part-is : (place : ℕ) (area : List ℕ) (from : ℕ) → from ≡ start_of place → take (from + place_length - from) (drop from area) ≡ place_bytes area place
part-is place area from e =
    let n : from + place_length - from ≡ place_length = omega arith in
    ap (λ (k : ℕ). take k (drop from area)) n ∙ ap (λ (k : ℕ). take place_length (drop k area)) e

-- what stands past the front of two lists
get_d_past : (xs ys : List ℕ) (k d : ℕ) → length xs ≤ k → get_or (xs ++ ys) k d ≡ get_or ys (k - length xs) d
get_d_past xs ys k d h = ap (λ (n : ℕ). get_or (xs ++ ys) n d) (sym (add-sub_of_le h)) ∙ get_or-append-add xs ys (k - length xs) d

module _ (area : List ℕ) (i : ℕ) (bytes : List ℕ) (whole : LongEnough area) (low : i < place_count) (short : length bytes ≤ place_length) where
  -- a place's bytes, padded up with zeros
  abbrev padded : List ℕ
  padded = bytes ++ replicate (place_length - length bytes) 0

  length-padded : length padded ≡ place_length
  length-padded = simp (length-append, length-replicate) (omega arith)

  length_before : length (take (start_of i) area) ≡ start_of i
  length_before = length-take-le (start_of i) area (omega arith)

  pub length-with-bytes : length (with_bytes area i bytes) ≡ length area
  length-with-bytes =
      length-append (take (start_of i) area) (padded ++ drop (start_of i + place_length) area)
      ∙ omega (arith, length_before, length-append padded (drop (start_of i + place_length) area), length-padded, length-drop (start_of i + place_length) area)

  pub place-with-bytes : place_bytes (with_bytes area i bytes) i ≡ padded
  place-with-bytes =
      ap (take place_length) (drop_at (take (start_of i) area) (padded ++ drop (start_of i + place_length) area) (start_of i) length_before)
      ∙ take_at padded (drop (start_of i + place_length) area) place_length length-padded

  -- bytes outside the place are as they were
  pub byte-before : (k d : ℕ) → k < start_of i → get_or (with_bytes area i bytes) k d ≡ get_or area k d
  byte-before k d h =
      get_or-append (take (start_of i) area) (padded ++ drop (start_of i + place_length) area) d k (omega (arith, length_before)) ∙ get_or-take (start_of i) area k d h

  pub byte-behind : (k d : ℕ) → start_of i + place_length ≤ k → get_or (with_bytes area i bytes) k d ≡ get_or area k d
  byte-behind k d h =
      get_d_past (take (start_of i) area) (padded ++ drop (start_of i + place_length) area) k d (omega (arith, length_before))
      ∙ get_d_past padded (drop (start_of i + place_length) area) (k - length (take (start_of i) area)) d (omega (arith, length_before, length-padded))
      ∙ get_or-drop (start_of i + place_length) area ((k - length (take (start_of i) area)) - length padded) d
      ∙ ap (λ (n : ℕ). get_or area n d) (omega (arith, length_before, length-padded))

  -- another place is as it was
  pub place-with-other : (j : ℕ) → (j ≡ i → ⊥) → place_bytes (with_bytes area i bytes) j ≡ place_bytes area j
  place-with-other j other =
      ext_get_or 0 (place_bytes (with_bytes area i bytes) j) (place_bytes area j) sized byte
    where
      sized : length (place_bytes (with_bytes area i bytes) j) ≡ length (place_bytes area j)
      sized = simp (length-take, length-drop) (ap (λ (n : ℕ). min place_length (n - start_of j)) length-with-bytes)

      same : (k : ℕ) → k < place_length → get_or (with_bytes area i bytes) (start_of j + k) 0 ≡ get_or area (start_of j + k) 0
      same k h = elim (dec_lt j i) [ yes p ↦ byte-before (start_of j + k) 0 (omega arith) | no q ↦ byte-behind (start_of j + k) 0 (omega arith) ]

      byte : (k : ℕ) → k < length (place_bytes (with_bytes area i bytes) j) → get_or (place_bytes (with_bytes area i bytes) j) k 0 ≡ get_or (place_bytes area j) k 0
      byte k h =
          get_or-take place_length (drop (start_of j) (with_bytes area i bytes)) k 0 within ∙ get_or-drop (start_of j) (with_bytes area i bytes) k 0
          ∙ same k within ∙ sym (get_or-drop (start_of j) area k 0) ∙ sym (get_or-take place_length (drop (start_of j) area) k 0 within)
        where
          within : k < place_length
          within = omega (arith, length-take place_length (drop (start_of j) (with_bytes area i bytes)))

  pub stored-with-other : (j : ℕ) → (j ≡ i → ⊥) → stored_at (with_bytes area i bytes) j ≡ stored_at area j
  stored-with-other j other = ap front_table (place-with-other j other)

-- a table that passes 10 fits a place
pub fits-place : (table : List ℕ) → WellFormed table → length table ≤ place_length
fits-place table f =
    omega (arith, f.whole, mul-le-mul {n₂ = 64} {m₂ = 16} f.header.rows-high f.header.actions-high)

-- the length that the header gives, whatever stands behind the table
length-of-table : (table behind : List ℕ) → WellFormed table → table_length (table ++ behind) ≡ length table
length-of-table table behind f = ap (λ (n : ℕ). 8 + n) (ap₂ (λ (m n : ℕ). m * n) (word 4 (omega arith)) (word 2 (omega arith))) ∙ sym f.whole
  where
    word : (k : ℕ) → k ≤ 6 → word_at (table ++ behind) k ≡ word_at table k
    word k h =
        ap₂ (λ (m n : ℕ). m + 256 * n) (get_or-append table behind 0 k (omega (arith, f.header.long)))
        (get_or-append table behind 0 (k + 1) (omega (arith, f.header.long)))

-- a table put at a place stands there
pub stored-with-bytes : (area : List ℕ) (i : ℕ) (table : List ℕ) → LongEnough area → i < place_count → WellFormed table → stored_at (with_bytes area i table) i ≡ table
stored-with-bytes area i table whole low f =
    ap front_table (place-with-bytes area i table whole low (fits-place table f))
    ∙ take_at table (replicate (place_length - length table) 0) (table_length (table ++ replicate (place_length - length table) 0)) (sym (length-of-table table (replicate (place_length - length table) 0) f))
