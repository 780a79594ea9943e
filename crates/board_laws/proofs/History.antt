-- Demand 2 for a board that is used, with its whole area, only through its calls: when a call is carried out and an action permitted, and where a watched
-- rule is reported. Each is the theorem of crate runs, of what board and area hold.
-- Assumes nothing.
use mathlib.Core.Path.{◌≡◌}
use mathlib.Core.Bool.{true, false}
use mathlib.Core.List.{List, [], ◌∷◌, ◌++◌}
use mathlib.Core.Logic.{◌↔◌}
use Prim.Native.Nat.{ℕ, ◌<◌}
use Rattle.base.specs.Sets.{Member}
use Rattle.table.specs.Table.{type_of}
use Rattle.places.specs.Layout.{place_count}
use Rattle.places.specs.declared.Board.{Board}
use Rattle.view.specs.View.{view_of}
use Rattle.view.specs.Steps.{Call, put_on, act, Reply, done, permitted, denied, is_refusal}
use Rattle.view.specs.Calls.{Calls}
use Rattle.runs.specs.Events.{Event, event, rule, on_place, taken_off, NeverRefused}
use Rattle.runs.specs.Runs.{StateIs}
use Rattle.runs.specs.Verdicts.{ActionListed, May, Violated, NoneViolated, FirstFulfilled, Judges, IsPermitted}
use Rattle.runs.specs.Holding.{Holds, PutsOnly}
use Rattle.runs.proofs.State.{run-state}
use Rattle.runs.proofs.Refusals.{run-never, run-exactly}
use Rattle.runs.proofs.Runs.{run-judges, run-permit-exactly, run-deny-otherwise, run-only-watched, run-fulfilled-exactly}
use Rattle.runs.proofs.Reports.{run-reported-once}
use Rattle.runs.proofs.Holding.{run-holds-put, run-puts-hold}
use Rattle.board_laws.specs.History.{History}
use Rattle.board_laws.proofs.HistoryRun.{history-run, call-held}

module _ {events : List Event} {board : Board} {area : List ℕ} (h : History events board area) where
  -- A history leads to a board and an area that hold what its events say.
  pub history-state : StateIs (on_place events) (view_of board area)
  history-state = run-state (history-run h)

  -- No call of a history is refused by 14, and none by 25.
  pub never-14 : NeverRefused 14 events
  never-14 = (run-never (history-run h)).0

  pub never-25 : NeverRefused 25 events
  never-25 = (run-never (history-run h)).1

  -- A call is carried out exactly when no refusal stated for it applies: a table is put on, a place is taken off, an action is permitted or denied.
  pub carried-exactly : {call : Call} {reply : Reply} {next : Board} {rest : List ℕ} → Calls board area call reply next rest
      → (is_refusal reply ≡ false) ↔ May place_count events call
  carried-exactly p = run-exactly (history-run h) (call-held h p)

  module _ {action : ℕ} where
    -- The answer to an action of the list: permitted with the set of the places that it fulfils, or denied with the lowest place that it violates.
    pub act-judges : ActionListed events action → {reply : Reply} {next : Board} {rest : List ℕ} → Calls board area (act action) reply next rest → Judges events action reply
    act-judges l p = run-judges (history-run h) l (call-held h p)

    -- An action of the list is permitted exactly when no enforced rule is violated by the actions permitted since that rule was put on, followed
    -- by this one.
    pub permit-exactly : ActionListed events action → {reply : Reply} {next : Board} {rest : List ℕ} → Calls board area (act action) reply next rest
        → IsPermitted reply ↔ NoneViolated events action
    permit-exactly l p = run-permit-exactly (history-run h) l (call-held h p)

    -- Otherwise it is denied, with the lowest place whose enforced rule is violated.
    pub deny-otherwise : ActionListed events action → {reply : Reply} {next : Board} {rest : List ℕ} → Calls board area (act action) reply next rest
        → (NoneViolated events action → ⊥) → (place : ℕ) × (reply ≡ denied place) × Violated events action place × ((i : ℕ) → i < place → Violated events action i → ⊥)
    deny-otherwise l p = run-deny-otherwise (history-run h) l (call-held h p)

    -- A board that holds only watched rules permits every action in its list.
    pub only-watched : ((i : ℕ) (table since : List ℕ) → on_place events i ≡ rule table since → type_of table ≡ 2)
        → ActionListed events action → {reply : Reply} {next : Board} {rest : List ℕ} → Calls board area (act action) reply next rest → IsPermitted reply
    only-watched watched l p = run-only-watched (history-run h) watched l (call-held h p)

    -- A watched rule is reported fulfilled at exactly the permitted action that first fulfils it.
    pub fulfilled-exactly : {set : ℕ} {next : Board} {rest : List ℕ} → Calls board area (act action) (permitted set) next rest
        → (i : ℕ) → Member set i ↔ FirstFulfilled events action i
    fulfilled-exactly p = run-fulfilled-exactly (history-run h) (call-held h p)

-- So it is reported once: between two reports of a place it was taken off.
pub reported-once : (later earlier : List Event) (action again set other : ℕ) {board : Board} {area : List ℕ}
    → History (event (act again) (permitted other) ∷ (later ++ (event (act action) (permitted set) ∷ earlier))) board area
    → (i : ℕ) → Member set i → Member other i → taken_off i later ≡ true
reported-once later earlier action again set other h = run-reported-once later earlier action again set other (history-run h)

-- A table put on a board that holds tables, before any action was permitted since, is held with them.
pub holds-put : {place : ℕ} {table : List ℕ} {events : List Event} {board : Board} {area : List ℕ} → History (event (put_on place table) done ∷ events) board area
    → {tables : List (List ℕ)} → Holds events tables [] → Holds (event (put_on place table) done ∷ events) (table ∷ tables) []
holds-put g h = run-holds-put (history-run g) h

-- A new board on which tables were put, each with success, holds them.
pub puts-hold : {events : List Event} {tables : List (List ℕ)} → PutsOnly events tables → {board : Board} {area : List ℕ} → History events board area
    → Holds events tables []
puts-hold puts g = run-puts-hold puts (history-run g)
