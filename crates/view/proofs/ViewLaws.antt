-- The view of a board and its area after a change is the changed view.
-- Assumes nothing.
use mathlib.Core.Path.{◌≡◌, refl, sym, ◌∙◌, ap, ap₂}
use mathlib.Core.Bool.{Bool, true, false, cond}
use mathlib.Core.List.{List, []}
use Prim.Native.Nat.{ℕ, ◌≤◌, ◌<◌}
use native.Mathlib.Decide.{dec_lt}
use native.Mathlib.Omega.{arith}
use lib.Dec.{eqb}
use lib.ListN.{length}
use borrow.Author.Tests.{eqb-true, eqb-false}
use Rattle.base.proofs.Lists.{get_or-blank}
use Rattle.table.specs.Table.{WellFormed}
use Rattle.places.specs.Layout.{place_count, place_length, LongEnough, stored_at, with_bytes}
use Rattle.places.specs.Places.{place_in, case_in, case_at, taken, with_case, places_by, empty_board}
use Rattle.view.specs.View.{View, empty_view, held, view_of, sets, moves, view_after, board_after}
use Rattle.places.specs.declared.Case.{Case}
use Rattle.places.specs.declared.Case.TheVariants.{Empty}
use Rattle.places.specs.declared.Place.{Place}
use Rattle.places.specs.declared.Board.{Board}
use Rattle.places.proofs.AreaLaws.{stored-with-other, stored-with-bytes, fits-place}
use Rattle.places.proofs.CaseLaws.{free-empty, case-with, case-with-other, length-places-by, case-by, case-beyond}

-- views that agree at each place
pub same_view : (v w : View) → ((i : ℕ) → v.case i ≡ w.case i) → ((i : ℕ) → v.table i ≡ w.table i) → v ≡ w
same_view v w p q = λ k. record { case = λ i. p i k; table = λ i. q i k }

-- A new board holds nothing, whatever its area.
pub new-view : (area : List ℕ) → view_of empty_board area ≡ empty_view
new-view area = same_view (view_of empty_board area) empty_view none (λ i. ap (λ (c : Case). held c (stored_at area i)) (none i))
  where
    none : (i : ℕ) → case_at empty_board i ≡ Empty
    none i = ap (λ (p : Place). p.case) (get_or-blank place_count i (place_in Empty))

-- One place set.
module _ (board : Board) (area : List ℕ) (eight : length board.places ≡ place_count) (whole : LongEnough area) (place : ℕ) (low : place < place_count) where
  set_view : (case : Case) (table : List ℕ) → length table ≤ place_length → held case (stored_at (with_bytes area place table) place) ≡ table
      → view_of (with_case board place case) (with_bytes area place table) ≡ view_after (sets place case table) (view_of board area)
  set_view case table short here =
      same_view (view_of (with_case board place case) (with_bytes area place table)) (view_after (sets place case table) (view_of board area))
      (λ i. cases i (eqb place i) refl) (λ i. tables i (eqb place i) refl)
    where
      cases : (i : ℕ) (b : Bool) → eqb place i ≡ b → case_at (with_case board place case) i ≡ cond b case (case_at board i)
      cases i true e = ap (case_at (with_case board place case)) (sym (eqb-true place i e)) ∙ case-with board place case (omega arith)
      cases i false e = case-with-other board place case i (λ p. eqb-false place i e (sym p))

      tables : (i : ℕ) (b : Bool) → eqb place i ≡ b → (view_of (with_case board place case) (with_bytes area place table)).table i ≡ cond b table ((view_of board area).table i)
      tables i true e =
          ap (λ (k : ℕ). (view_of (with_case board place case) (with_bytes area place table)).table k) (sym (eqb-true place i e))
          ∙ ap (λ (c : Case). held c (stored_at (with_bytes area place table) place)) (case-with board place case (omega arith)) ∙ here
      tables i false e =
          ap₂ held (case-with-other board place case i (λ p. eqb-false place i e (sym p)))
          (stored-with-other area place table whole low short i (λ p. eqb-false place i e (sym p)))

  pub put_view : (case : Case) → taken case ≡ true → (table : List ℕ) → WellFormed table
      → view_of (with_case board place case) (with_bytes area place table) ≡ view_after (sets place case table) (view_of board area)
  put_view case on table formed =
      set_view case table (fits-place table formed)
      (ap (λ (b : Bool). cond b (stored_at (with_bytes area place table) place) []) on ∙ stored-with-bytes area place table whole low formed)

  pub take-view : view_of (with_case board place Empty) (with_bytes area place []) ≡ view_after (sets place Empty []) (view_of board area)
  take-view = set_view Empty [] (omega arith) refl

-- Every case moved, none to or from an empty place.
pub move-view : (board : Board) (area : List ℕ) → length board.places ≡ place_count → (next : ℕ → Case) → ((i : ℕ) → taken (next i) ≡ taken (case_at board i))
    → view_of (board_after (moves next) board) area ≡ view_after (moves next) (view_of board area)
move-view board area eight next same = same_view (view_of (board_after (moves next) board) area) (view_after (moves next) (view_of board area)) cases tables
  where
    cases : (i : ℕ) → case_in (places_by place_count next) i ≡ next i
    cases i = elim (dec_lt i place_count) [ yes h ↦ case-by place_count next (omega arith) i h | no h ↦ beyond (omega arith) ]
      where
        beyond : place_count ≤ i → case_in (places_by place_count next) i ≡ next i
        beyond h =
            case-beyond (places_by place_count next) i (omega (arith, length-places-by place_count next))
            ∙ sym (free-empty (next i) (same i ∙ ap taken (case-beyond board.places i (omega arith))))

    tables : (i : ℕ) → (view_of (board_after (moves next) board) area).table i ≡ (view_of board area).table i
    tables i = ap (λ (b : Bool). cond b (stored_at area i) []) (ap taken (cases i) ∙ same i)
