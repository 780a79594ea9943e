-- A change that a call makes in a board and its area is the change of what they hold: the area stays as long, and the board keeps its places.
-- Assumes nothing.
use mathlib.Core.Path.{◌≡◌, refl, ◌∙◌}
use mathlib.Core.Bool.{Bool, true, false, cond}
use mathlib.Core.List.{List, []}
use Prim.Native.Nat.{ℕ, ◌≤◌, ◌<◌}
use native.Mathlib.Omega.{arith}
use lib.Dec.{eqb}
use lib.ListN.{length, get_or}
use Rattle.table.specs.Table.{type_of, WellFormed}
use Rattle.places.specs.Layout.{place_count, place_length, area_length, LongEnough}
use Rattle.places.specs.Places.{taken}
use Rattle.places.specs.declared.Case.{Case}
use Rattle.places.specs.declared.Case.TheVariants.{Empty, Enforced, Watched, Fulfilled}
use Rattle.places.specs.declared.Board.{Board}
use Rattle.places.proofs.AreaLaws.{length-with-bytes, byte-behind, fits-place}
use Rattle.places.proofs.CaseLaws.{length-with-case, length-places-by}
use Rattle.view.specs.View.{View, view_of, Change, stays, sets, moves, view_after, board_after, area_after}
use Rattle.view.specs.Moves.{entry_at, watched_move, moved}
use Rattle.view.specs.Steps.{Call, Reply, checks_of, Passes, AllPass, Carries, puts, takes, is-denied, is-permitted, CallStep}
use Rattle.view.proofs.ViewLaws.{put_view, take-view, move-view}
use Rattle.view.proofs.StepLaws.{Ends, is-refused, is_carried, ends}

-- What is set at a place: a rule with a table that passes 10, or nothing.
pub data Settable : Case → List ℕ → Type 0 where
  a-rule : (case : Case) (table : List ℕ) → taken case ≡ true → WellFormed table → Settable case table
  nothing-on : Settable Empty []

-- The changes that calls make: one place of the board is set, or every case moves, none to or from an empty place.
abbrev pub Proper : View → Change → Type 0
Proper view stays = Unit {0}
Proper view (sets place case table) = (place < place_count) × Settable case table
Proper view (moves next) = (i : ℕ) → taken (next i) ≡ taken (view.case i)

taken-if : (b : Bool) (c d : Case) → taken c ≡ true → taken d ≡ true → taken (cond b c d) ≡ true
taken-if true c d p q = p
taken-if false c d p q = q

watched-taken : (e : ℕ) → taken (watched_move e) ≡ true
watched-taken e = taken-if (eqb e 255) Fulfilled (Watched e) refl refl

moved-taken : (table : List ℕ) (action : ℕ) (c : Case) → taken (moved table action c) ≡ taken c
moved-taken table action Empty = refl
moved-taken table action (Enforced row) = refl
moved-taken table action (Watched row) = watched-taken (entry_at table row action)
moved-taken table action Fulfilled = refl

-- the change of a call
pub step-proper : {Long Can : Type 0} {places : ℕ} {view : View} {call : Call} {reply : Reply} {change : Change} → places ≤ place_count
    → CallStep Long Can places view call reply change → Proper view change
step-proper {Long} {Can} {places} {view} {call} few s = by (ends s)
  where
    done-to : {call : Call} {reply : Reply} {change : Change} → AllPass (Passes Long Can places view) (checks_of call) → Carries places view call reply change → Proper view change
    done-to all (puts {table = table}) =
        let low = all.1.0 in
        (omega arith, a-rule _ table (taken-if (eqb (type_of table) 1) (Enforced 0) (Watched 0) refl refl) all.1.1.1.1.0)
    done-to all takes = let low = all.1.0 in (omega arith, nothing-on)
    done-to all (is-denied place h d n) = tt
    done-to all (is-permitted {action = action} n) = λ i. moved-taken (view.table i) action (view.case i)

    by : {reply : Reply} {change : Change} → Ends (Passes Long Can places view) (Carries places view call) (checks_of call) reply change → Proper view change
    by (is-refused check n r c) = rw c tt
    by (is_carried all d) = done-to all d

short : {case : Case} {table : List ℕ} → Settable case table → length table ≤ place_length
short (a-rule case table on formed) = fits-place table formed
short nothing-on = omega arith

module _ (board : Board) (area : List ℕ) (whole : LongEnough area) where
  pub length-after : (change : Change) → Proper (view_of board area) change → length (area_after change area) ≡ length area
  length-after stays p = refl
  length-after (sets place case table) p = length-with-bytes area place table whole p.0 (short p.1)
  length-after (moves next) p = refl

  -- bytes beyond the places are not touched
  pub beyond-after : (change : Change) → Proper (view_of board area) change → (k : ℕ) → area_length ≤ k → get_or (area_after change area) k 0 ≡ get_or area k 0
  beyond-after stays p k h = refl
  beyond-after (sets place case table) p k h = byte-behind area place table whole p.0 (short p.1) k 0 (let low = p.0 in omega arith)
  beyond-after (moves next) p k h = refl

  module _ (counted : length board.places ≡ place_count) where
    pub places-after : (change : Change) → length (board_after change board).places ≡ place_count
    places-after stays = counted
    places-after (sets place case table) = length-with-case board place case ∙ counted
    places-after (moves next) = length-places-by place_count next

    pub view-after : (change : Change) → Proper (view_of board area) change → view_of (board_after change board) (area_after change area) ≡ view_after change (view_of board area)
    view-after stays p = refl
    view-after (sets place case table) p = set p.1
      where
        set : {case : Case} {table : List ℕ} → Settable case table
            → view_of (board_after (sets place case table) board) (area_after (sets place case table) area) ≡ view_after (sets place case table) (view_of board area)
        set (a-rule case table on formed) = put_view board area counted whole place p.0 case on table formed
        set nothing-on = take-view board area counted whole place p.0
    view-after (moves next) p = move-view board area counted next p
