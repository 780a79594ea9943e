-- Laws of a board's cases: after another case was put at a place, and of places by their cases.
-- Assumes nothing.
use mathlib.Core.Path.{◌≡◌, refl, sym, ◌∙◌, ap}
use mathlib.Core.Bool.{false}
use mathlib.Core.List.{List}
use Prim.Native.Nat.{ℕ, zero, suc, ◌≤◌, ◌<◌}
use native.Mathlib.Omega.{arith}
use lib.ListN.{length, get_or, set, length-set, length-replicate, get_or-eq_default}
use lib.Seq.{get_or-set_same, get_or-set_other, set-get_or}
use Rattle.base.proofs.Filled.{filled_at}
use Rattle.base.proofs.Lists.{get_or-blank}
use Rattle.trace.proofs.Laws.{not-both}
use Rattle.places.specs.Layout.{place_count}
use Rattle.places.specs.Places.{place_in, case_in, case_at, taken, with_case, places_by}
use Rattle.places.specs.declared.Case.{Case}
use Rattle.places.specs.declared.Case.TheVariants.{Empty, Enforced, Watched, Fulfilled}
use Rattle.places.specs.declared.Place.{Place}
use Rattle.places.specs.declared.Board.{Board}

-- a place that is not taken is empty
pub free-empty : (c : Case) → taken c ≡ false → c ≡ Empty
free-empty Empty e = refl
free-empty (Enforced row) e = not-both e
free-empty (Watched row) e = not-both e
free-empty Fulfilled e = not-both e

-- another case at a place
module _ (board : Board) (i : ℕ) (c : Case) where
  pub length-with-case : length (with_case board i c).places ≡ length board.places
  length-with-case = length-set board.places i (place_in c)

  pub case-with : i < length board.places → case_at (with_case board i c) i ≡ c
  case-with low = ap (λ (p : Place). p.case) (get_or-set_same board.places i (place_in c) (place_in Empty) low)

  pub case-with-other : (j : ℕ) → (j ≡ i → ⊥) → case_at (with_case board i c) j ≡ case_at board j
  case-with-other j other = ap (λ (p : Place). p.case) (get_or-set_other board.places i j (place_in c) (place_in Empty) other)

-- places by their cases
pub length-places-by : (n : ℕ) (cases : ℕ → Case) → length (places_by n cases) ≡ place_count
length-places-by zero cases = length-replicate {A = Place} place_count (place_in Empty)
length-places-by (suc n) cases = length-set (places_by n cases) n (place_in (cases n)) ∙ length-places-by n cases

pub case-by : (n : ℕ) (cases : ℕ → Case) → n ≤ place_count → (i : ℕ) → i < n → case_in (places_by n cases) i ≡ cases i
case-by n cases few i h = ap (λ (p : Place). p.case) (filled_at place_count (place_in Empty) (λ j before. place_in (cases j)) n i h few)

pub place_after : (n : ℕ) (cases : ℕ → Case) (i : ℕ) → n ≤ i → get_or (places_by n cases) i (place_in Empty) ≡ place_in Empty
place_after zero cases i h = get_or-blank place_count i (place_in Empty)
place_after (suc n) cases i h =
    get_or-set_other (places_by n cases) n i (place_in (cases n)) (place_in Empty) (λ e. omega arith) ∙ place_after n cases i (omega arith)

-- an empty place more
pub places-by-empty : (n : ℕ) (cases : ℕ → Case) → cases n ≡ Empty → places_by (suc n) cases ≡ places_by n cases
places-by-empty n cases e =
    ap (λ (c : Case). set (places_by n cases) n (place_in c)) e
    ∙ ap (set (places_by n cases) n) (sym (place_after n cases n (omega arith)))
    ∙ set-get_or (places_by n cases) n (place_in Empty)

-- beyond its places a board reads as empty
pub case-beyond : (places : List Place) (i : ℕ) → length places ≤ i → case_in places i ≡ Empty
case-beyond places i h = ap (λ (p : Place). p.case) (get_or-eq_default places (place_in Empty) h)
