-- A history of a board and its area is a run of what they hold; the area stays whole, and the board keeps its places.
-- Assumes nothing.
use mathlib.Core.Path.{◌≡◌, sym, ◌∙◌, ap, subst}
use mathlib.Core.Bool.{true}
use mathlib.Core.List.{List, [], ◌∷◌, ◌++◌}
use Prim.Native.Nat.{ℕ, ◌≤◌, ◌<◌}
use native.Mathlib.Decide.{dec_lt}
use native.Mathlib.Omega.{arith}
use lib.ListN.{length, drop, replicate, length-append, length-replicate}
use Rattle.trace.proofs.Laws.{not-both}
use Rattle.places.specs.Layout.{place_count, area_length, LongEnough}
use Rattle.places.specs.Places.{case_at, taken}
use Rattle.places.specs.declared.Case.TheVariants.{Empty}
use Rattle.places.specs.declared.Board.{Board}
use Rattle.places.proofs.CaseLaws.{length-places-by, case-beyond}
use Rattle.view.specs.View.{view_of}
use Rattle.view.specs.Steps.{Call, Reply}
use Rattle.view.specs.Calls.{CanBe, CallsWith, Calls, made}
use Rattle.view.proofs.ViewLaws.{new-view}
use Rattle.view.proofs.StepLaws.{step_past}
use Rattle.runs.specs.Events.{Event, event}
use Rattle.runs.specs.Runs.{StepOn, Run, start, called}
use Rattle.runs.proofs.Places.{possible}
use Rattle.runs.proofs.State.{run-state}
use Rattle.board_laws.specs.History.{History, new, called as history-called}
use Rattle.board_laws.proofs.Changes.{step-proper, length-after, places-after, view-after}

-- What holds along a history.
record Kept (events : List Event) (board : Board) (area : List ℕ) : Type 0 where
  counted : length board.places ≡ place_count
  whole : LongEnough area
  run : Run events (view_of board area)

zeros-first : (n : ℕ) (rest : List ℕ) → n ≤ length (replicate n 0 ++ rest)
zeros-first n rest = omega (arith, length-append (replicate n 0) rest, length-replicate {A = ℕ} n 0)

module _ {events : List Event} {board : Board} {area : List ℕ} (k : Kept events board area) where
  -- a board has no taken place beyond its places
  above : (i : ℕ) → taken (case_at board i) ≡ true → i < place_count
  above i t = elim (dec_lt i place_count) [ yes h ↦ h | no h ↦ beyond (omega arith) ]
    where
      beyond : place_count ≤ i → i < place_count
      beyond h = not-both (sym t ∙ ap taken (case-beyond board.places i (omega (arith, k.counted))))

  module _ {Can : Type 0} (can : Can) {call : Call} {reply : Reply} {next : Board} {rest : List ℕ} (p : CallsWith place_count Can board area call reply next rest) where
    -- a call is one on what they hold, where the board can be
    step-held : StepOn place_count (view_of board area) call reply p.change
    step-held = record { above = above; step = step_past k.whole can p.step }

    next-kept : Kept (event call reply ∷ events) next rest
    next-kept =
        let proper = step-proper (omega arith) p.step in
        rw (p.board-is, p.area-is)
        (record {
          counted = places-after board area k.whole k.counted p.change;
          whole = subst (λ (n : ℕ). area_length ≤ n) (sym (length-after board area k.whole p.change proper)) k.whole;
          run =
              subst (Run (event call reply ∷ events)) (sym (view-after board area k.whole k.counted p.change proper)) (called k.run step-held);
        })

  -- it can be
  can-be : CanBe place_count board area
  can-be = possible (run-state k.run) place_count

kept : {events : List Event} {board : Board} {area : List ℕ} → History events board area → Kept events board area
kept (new {lent = lent} (made w)) =
    record {
      counted = length-places-by 0 (λ i. Empty);
      whole = zeros-first area_length (drop area_length lent);
      run = subst (Run []) (sym (new-view (replicate area_length 0 ++ drop area_length lent))) start;
    }
kept (history-called h p) = next-kept (kept h) (can-be (kept h)) p

module _ {events : List Event} {board : Board} {area : List ℕ} (h : History events board area) where
  -- What is proved of runs holds of histories.
  pub history-run : Run events (view_of board area)
  history-run = (kept h).run

  -- The area stays whole, the board keeps its places, and both can be.
  pub history-whole : LongEnough area
  history-whole = (kept h).whole

  pub history-places : length board.places ≡ place_count
  history-places = (kept h).counted

  pub history-can-be : CanBe place_count board area
  history-can-be = can-be (kept h)

  -- so a call is one on what they hold
  pub call-held : {call : Call} {reply : Reply} {next : Board} {rest : List ℕ} (p : Calls board area call reply next rest) → StepOn place_count (view_of board area) call reply p.change
  call-held p = step-held (kept h) history-can-be p
