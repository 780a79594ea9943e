-- A record and an area used only through the exported calls are a board's history: what is proved of every history holds of the answers that C reads.
-- Assumes nothing.
use mathlib.Core.Path.{◌≡◌, refl, sym, subst}
use mathlib.Core.Bool.{Bool, true, false, cond}
use mathlib.Core.List.{List, [], ◌∷◌}
use Prim.Native.Nat.{ℕ, ◌≤◌}
use native.Mathlib.Omega.{arith}
use lib.ListN.{length}
use Rattle.places.specs.Places.{empty_board}
use Rattle.places.specs.declared.Board.{Board}
use Rattle.view.specs.Steps.{Call, Reply, done, changes}
use Rattle.view.specs.Calls.{made, make-14}
use Rattle.runs.specs.Events.{Event, event}
use Rattle.board_laws.specs.History.{History, new}
use Rattle.board_laws.specs.History as history
use Rattle.records.specs.Record.{record_length, board_of, written}
use Rattle.records.proofs.ReadBack.{length-written}
use Rattle.lemondarts.specs.Exports.{record_after, short-record, called, NewBoardReturns, CallReturns}
use Rattle.lemondarts_laws.specs.Session.{reply_in, Session, begun}
use Rattle.lemondarts_laws.specs.Session as session
use Rattle.lemondarts_laws.proofs.Kept.{made_kept, call_kept}
use Rattle.lemondarts_laws.proofs.Answers.{answer_back}

-- the record keeps its length
record-length : (bytes : List ℕ) (reply : Reply) (next : Board) → record_length ≤ length bytes → length (record_after bytes reply next) ≡ length bytes
record-length bytes reply next h = chosen (changes reply)
  where
    chosen : (b : Bool) → length (cond b (written next bytes) bytes) ≡ length bytes
    chosen true = length-written next bytes h
    chosen false = refl

pub record HeldBy (events : List Event) (bytes area : List ℕ) : Type 0 where
  pub long : record_length ≤ length bytes
  pub history : History events (board_of bytes) area

begins : {lent old bytes area : List ℕ} {returned : ℕ} → NewBoardReturns old lent returned bytes area → returned ≡ 0 → HeldBy [] bytes area
begins (short-record n) e = absurd (omega arith)
begins {lent} {old} (called long reply next left (made w)) e = record {
  long = subst (λ (n : ℕ). record_length ≤ n) (sym (record-length old done empty_board long)) long;
  history = subst (λ (b : Board). History [] b left) (sym (made_kept old)) (new {lent = lent} (made w));
}
begins (called long reply next left (make-14 n)) e = absurd (omega arith)

-- the bytes that a call leaves hold what the wrapped call left
call-holds : {events : List Event} {bytes area bytes' area' : List ℕ} {call : Call} {returned : ℕ} → HeldBy events bytes area → CallReturns bytes area call returned bytes' area'
    → HeldBy (event call (reply_in call returned) ∷ events) bytes' area'
call-holds h (short-record n) = absurd (n h.long)
call-holds {events} {bytes} {call = call} h (called long reply next left p) = record {
  long = subst (λ (n : ℕ). record_length ≤ n) (sym (record-length bytes reply next long)) long;
  history =
      subst (λ (r : Reply). History (event call r ∷ events) (board_of (record_after bytes reply next)) left) (sym (answer_back p))
      (subst (λ (b : Board). History (event call reply ∷ events) b left) (sym (call_kept bytes p)) (history.called h.history p));
}

-- Every session is a history of the board that its record holds.
pub session-history : {events : List Event} {bytes area : List ℕ} → Session events bytes area → HeldBy events bytes area
session-history (begun r) = begins r refl
session-history (session.called s r) = call-holds (session-history s) r
