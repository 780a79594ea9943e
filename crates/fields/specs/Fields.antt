-- Bytes in fields: what stands between the bytes that are a mark. There is one more than there are marks, and any of them may be empty.
-- Assumes nothing.
use Rattle.std.specs.Prelude.{◌≡◌, Bool, true, cond, not, ◌&&◌, List, [], ◌∷◌, ◌++◌, ℕ, ◌+◌, ◌-◌, ◌≤◌, ◌<◌, eqb, length, get_or, take, drop}

-- a byte in front of the first field
abbrev pub lengthen_first : ℕ → List (List ℕ) → List (List ℕ)
lengthen_first byte [] = (byte ∷ []) ∷ []
lengthen_first byte (field ∷ fields) = (byte ∷ field) ∷ fields

unfoldable pub split_by : (mark : ℕ) → List ℕ → List (List ℕ)
split_by mark [] = [] ∷ []
split_by mark (byte ∷ rest) = cond (eqb byte mark) ([] ∷ split_by mark rest) (lengthen_first byte (split_by mark rest))

abbrev pub fields_from : (mark : ℕ) → List ℕ → ℕ → List (List ℕ)
fields_from mark bytes from = split_by mark (drop from bytes)

-- what stands between two positions
abbrev pub between : List ℕ → ℕ → ℕ → List ℕ
between bytes from to = take (to - from) (drop from bytes)

-- The field that begins at a position ends at another: with the bytes, and then it is the last one; or at a mark, and the others follow it.
pub record EndsField (mark : ℕ) (bytes : List ℕ) (from to : ℕ) : Type 0 where
  pub onward : from ≤ to
  pub within : to ≤ length bytes
  pub more : to < length bytes → fields_from mark bytes from ≡ between bytes from to ∷ fields_from mark bytes (to + 1)
  pub last : to ≡ length bytes → fields_from mark bytes from ≡ between bytes from to ∷ []

-- A field stands between two positions: the one of this number, or nothing where there is none.
pub record FieldAt (mark : ℕ) (bytes : List ℕ) (number from to : ℕ) : Type 0 where
  pub onward : from ≤ to
  pub within : to ≤ length bytes
  pub field : between bytes from to ≡ get_or (split_by mark bytes) number []

-- Texts one after the other, each with a mark after it.
abbrev pub each_marked : (mark : ℕ) → List (List ℕ) → List ℕ
each_marked mark [] = []
each_marked mark (text ∷ texts) = text ++ (mark ∷ each_marked mark texts)

-- no byte of a text is the mark
abbrev pub unmarked : (mark : ℕ) → List ℕ → Bool
unmarked mark [] = true
unmarked mark (byte ∷ rest) = not (eqb byte mark) && unmarked mark rest

abbrev pub all_unmarked : (mark : ℕ) → List (List ℕ) → Bool
all_unmarked mark [] = true
all_unmarked mark (text ∷ texts) = unmarked mark text && all_unmarked mark texts
