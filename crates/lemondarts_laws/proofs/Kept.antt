-- What a call leaves in the record, read back, is the board that the wrapped call left.
-- Assumes nothing.
use mathlib.Core.Path.{◌≡◌, refl, sym, ◌∙◌, ap}
use mathlib.Core.Bool.{Bool, true, false, cond}
use mathlib.Core.List.{List}
use Prim.Native.Nat.{ℕ}
use Rattle.places.specs.Layout.{place_count, LongEnough}
use Rattle.places.specs.Places.{empty_board}
use Rattle.places.specs.declared.Board.{Board}
use Rattle.places.proofs.CaseLaws.{length-with-case, length-places-by}
use Rattle.view.specs.View.{View, view_of, Change, stays, sets, moves, board_after}
use Rattle.view.specs.Steps.{Call, Reply, changes, is_refusal, checks_of, Passes, Carries, puts, takes, is-denied, is-permitted}
use Rattle.view.specs.Calls.{CanBe, Calls}
use Rattle.view.proofs.StepLaws.{Ends, is-refused, is_carried, ends, refusal-refuses, refusal-keeps}
use Rattle.records.specs.Record.{board_of, written}
use Rattle.records.proofs.ReadBack.{eight-places, read-back}
use Rattle.lemondarts.specs.Exports.{record_after}

pub made_kept : (bytes : List ℕ) → board_of (written empty_board bytes) ≡ empty_board
made_kept bytes = read-back empty_board bytes refl

-- An answer tells whether the call changes anything.
abbrev alters : Change → Bool
alters stays = false
alters (sets place case table) = true
alters (moves next) = true

carried-tells : {places : ℕ} {view : View} {call : Call} {reply : Reply} {change : Change} → Carries places view call reply change → changes reply ≡ alters change
carried-tells puts = refl
carried-tells takes = refl
carried-tells (is-denied place h d n) = refl
carried-tells (is-permitted n) = refl

module _ (bytes : List ℕ) where
  kept_by : (reply : Reply) (change : Change) → changes reply ≡ alters change → board_of (record_after bytes reply (board_after change (board_of bytes))) ≡ board_after change (board_of bytes)
  kept_by reply stays e = ap (λ (b : Bool). board_of (cond b (written (board_of bytes) bytes) bytes)) e
  kept_by reply (sets place case table) e =
      ap (λ (b : Bool). board_of (cond b (written (board_after (sets place case table) (board_of bytes)) bytes) bytes)) e
      ∙ read-back (board_after (sets place case table) (board_of bytes)) bytes (length-with-case (board_of bytes) place case ∙ eight-places bytes)
  kept_by reply (moves next) e =
      ap (λ (b : Bool). board_of (cond b (written (board_after (moves next) (board_of bytes)) bytes) bytes)) e
      ∙ read-back (board_after (moves next) (board_of bytes)) bytes (length-places-by place_count next)

  pub call_kept : {area : List ℕ} {call : Call} {left : List ℕ} {reply : Reply} {next : Board} → Calls (board_of bytes) area call reply next left
      → board_of (record_after bytes reply next) ≡ next
  call_kept {area} {call} {reply = reply} p = rw p.board-is (kept_by reply p.change (by (ends p.step)))
    where
      by : {reply : Reply} {change : Change}
          → Ends (Passes (LongEnough area) (CanBe place_count (board_of bytes) area) place_count (view_of (board_of bytes) area)) (Carries place_count (view_of (board_of bytes) area) call)
          (checks_of call) reply change
          → changes reply ≡ alters change
      by {reply} (is-refused check n r c) = refusal-keeps reply (ap is_refusal r ∙ refusal-refuses check) ∙ sym (ap alters c)
      by (is_carried all d) = carried-tells d
