-- The fields are the parts that the library's `split` gives, and the field from a position on ends where a search finds the mark.
-- Assumes nothing.
use Rattle.std.proofs.Common.{◌≡◌, refl, sym, ap, ◌∙◌, ℕ, zero, suc, ◌+◌, ◌-◌, ◌≤◌, ◌<◌, Bool, true, false, not, List, [], ◌∷◌, length, get_or, take, drop, eqb, arith, length-drop, Some, None}
use Rattle.std.proofs.lemmas.Grind.{common_steps}
use Rattle.std.specs.List.{All, onto_first, slice_split, position, position_or_len}
use Rattle.std.proofs.lemmas.List.{take_all, drop-drop}
use Rattle.std.proofs.lemmas.List.Elements.{All-from_get_or}
use Rattle.std.proofs.lemmas.List.Splits.{slice_split_first, slice_split_none, length-slice_split}
use Rattle.std.proofs.lemmas.List.Sums.{prefix_len-le-length, prefix_len_passes}
use Rattle.std.specs.List.{count_by}
use native.Mathlib.Decide.{ℕ_discrete}
use Rattle.fields.specs.Fields.{lengthen_first, split_by, fields_from, between, EndsField}

abbrev pub is_mark : ℕ → ℕ → Bool
is_mark mark byte = eqb byte mark

longer_first : (byte : ℕ) (fields : List (List ℕ)) → lengthen_first byte fields ≡ onto_first byte fields
longer_first byte [] = refl
longer_first byte (field ∷ fields) = refl

pub as_split : (mark : ℕ) (bytes : List ℕ) → split_by mark bytes ≡ slice_split (is_mark mark) bytes
unfolding split_by
as_split mark [] = refl
as_split mark (byte ∷ rest) = simp (as_split mark rest, longer_first)

pub fields-counted : (mark : ℕ) (bytes : List ℕ) → length (split_by mark bytes) ≡ count_by (is_mark mark) bytes + 1
fields-counted mark bytes = ap length (as_split mark bytes) ∙ length-slice_split (is_mark mark) bytes

not-true : (a : Bool) → not a ≡ true → a ≡ false
not-true true e = cc
not-true false e = refl

pub ends-where_found : (mark : ℕ) (bytes : List ℕ) (from to : ℕ) → from ≤ length bytes → to ≡ from + position_or_len (is_mark mark) (drop from bytes) → EndsField mark bytes from to
ends-where_found mark bytes from to h e =
    let rest : List ℕ = drop from bytes in
    let n : ℕ = position_or_len (is_mark mark) rest in
    let long : length rest ≡ length bytes - from = length-drop from bytes in
    let inside : n ≤ length rest = prefix_len-le-length (λ b. not (eqb b mark)) rest in
    let far : to - from ≡ n = omega arith in
    let behind : drop (n + 1) rest ≡ drop (to + 1) bytes = drop-drop (n + 1) from bytes ∙ ap (λ (k : ℕ). drop k bytes) (omega arith) in
    record {
      onward = omega arith;
      within = omega arith;
      more = λ l.
          let found : n < length rest = omega arith in
          as_split mark rest
          ∙ slice_split_first (is_mark mark) rest 0 found
          ∙ rw (far, behind) (ap (λ (fields : List (List ℕ)). take n rest ∷ fields) (sym (as_split mark (drop (to + 1) bytes))));
      last = λ l.
          let none : All (λ b. eqb b mark ≡ false) rest = All-from_get_or (λ b. eqb b mark ≡ false) rest 0 (λ i k. not-true (eqb (get_or rest i 0) mark) (prefix_len_passes (λ b. not (eqb b mark)) rest i 0 (omega arith))) in
          as_split mark rest
          ∙ slice_split_none (is_mark mark) rest none
          ∙ rw (far) (ap (λ (field : List ℕ). field ∷ []) (sym (take_all n rest (omega arith))));
    }

-- the same of what the library's `position` finds
pub ends_at : (mark : ℕ) (bytes : List ℕ) (from k : ℕ) → from ≤ length bytes → position (is_mark mark) (drop from bytes) ≡ Some k → EndsField mark bytes from (from + k)
ends_at mark bytes from k h e =
    let n : position_or_len (is_mark mark) (drop from bytes) ≡ k = grind (arith, common_steps) in
    ends-where_found mark bytes from (from + k) h (ap (λ (n : ℕ). from + n) (sym n))

pub ends_with_bytes : (mark : ℕ) (bytes : List ℕ) (from : ℕ) → from ≤ length bytes → position (is_mark mark) (drop from bytes) ≡ None → EndsField mark bytes from (length bytes)
ends_with_bytes mark bytes from h e =
    let rest : List ℕ = drop from bytes in
    let inside : position_or_len (is_mark mark) rest ≤ length rest = prefix_len-le-length (λ b. not (eqb b mark)) rest in
    let n : length rest ≤ position_or_len (is_mark mark) rest = grind (arith, common_steps) in
    ends-where_found mark bytes from (length bytes) h (omega (arith, length-drop from bytes))

-- the first field from a position on
pub first_field : {mark : ℕ} {bytes : List ℕ} {from to : ℕ} → EndsField mark bytes from to → get_or (fields_from mark bytes from) 0 [] ≡ between bytes from to
first_field {mark} {bytes} {from} {to} e = elim (ℕ_discrete to (length bytes)) [ yes p ↦ rw (e.last p) | no q ↦ rw (e.more (omega arith)) ]

-- the fields by their numbers, from a position on whose field ends there
tail_at : (field : List ℕ) (fields : List (List ℕ)) (n : ℕ) → 0 < n → get_or (field ∷ fields) n [] ≡ get_or fields (n - 1) []
tail_at field fields zero h = absurd (omega arith)
tail_at field fields (suc n) h = let e : suc n - 1 ≡ n = omega arith in rw e

nothing-at : (n : ℕ) → get_or {A = List ℕ} [] n [] ≡ []
nothing-at zero = refl
nothing-at (suc n) = refl

module _ {mark : ℕ} {bytes : List ℕ} {from to : ℕ} (e : EndsField mark bytes from to) where
  pub next_field : to < length bytes → (n : ℕ) → 0 < n → get_or (fields_from mark bytes from) n [] ≡ get_or (fields_from mark bytes (to + 1)) (n - 1) []
  next_field h n l = rw (e.more h) (tail_at (between bytes from to) (fields_from mark bytes (to + 1)) n l)

  pub no_field : to ≡ length bytes → (n : ℕ) → 0 < n → get_or (fields_from mark bytes from) n [] ≡ []
  no_field p n l = rw (e.last p) (tail_at (between bytes from to) [] n l ∙ nothing-at (n - 1))

-- nothing stands between a position and itself
pub none_between : (mark : ℕ) (bytes : List ℕ) (from : ℕ) → between bytes from from ≡ []
none_between mark bytes from = let z : from - from ≡ 0 = omega arith in rw z
