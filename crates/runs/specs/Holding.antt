-- Which tables a board holds, and events of one kind alone.
-- Assumes nothing.
use Rattle.std.specs.Prelude.{◌≡◌, ℕ}
use mathlib.Core.List.{List, [], ◌∷◌, Memᴰ}
use Rattle.view.specs.Steps.{put_on, act, Reply, done}
use Rattle.runs.specs.Events.{Event, event, PlaceState, rule, on_place}

-- The places hold these tables and no others: every rule is one of them, and has read exactly these actions since it was put on, and each of them is on
-- some place.
pub record HoldsOn (on : ℕ → PlaceState) (tables : List (List ℕ)) (since : List ℕ) : Type 0 where
  pub rules : (i : ℕ) (table actions : List ℕ) → on i ≡ rule table actions → Memᴰ table tables × (actions ≡ since)
  pub each : (table : List ℕ) → Memᴰ table tables → (i : ℕ) × (on i ≡ rule table since)

-- A board holds them, as its events say.
abbrev pub Holds : List Event → (tables : List (List ℕ)) (since : List ℕ) → Type 0
Holds events = HoldsOn (on_place events)

-- These tables were put on, each with success, the newest first.
pub data PutsOnly : List Event → List (List ℕ) → Type 0 where
  none : PutsOnly [] []
  more : {events : List Event} {tables : List (List ℕ)} (place : ℕ) (table : List ℕ) → PutsOnly events tables
      → PutsOnly (event (put_on place table) done ∷ events) (table ∷ tables)

-- These actions were asked for, the newest first.
pub data ActsOnly : List Event → List ℕ → Type 0 where
  none : ActsOnly [] []
  more : {events : List Event} {actions : List ℕ} (action : ℕ) (reply : Reply) → ActsOnly events actions → ActsOnly (event (act action) reply ∷ events) (action ∷ actions)
