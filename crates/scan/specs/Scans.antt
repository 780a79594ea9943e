-- What the pass over the places gives under an action.
-- Assumes nothing.
use Rattle.std.specs.Prelude.{◌≡◌, List, ℕ, ◌<◌, Option, Some, None}
use Rattle.base.specs.Sets.{set_below}
use Rattle.places.specs.Layout.{place_count}
use Rattle.places.specs.Places.{places_by}
use Rattle.view.specs.View.{View}
use Rattle.view.specs.Moves.{denies_at, moved_at, fulfils_at}
use Rattle.view.specs.Possible.{Possible}
use Rattle.scan.specs.Survey.{Surveys}
use Rattle.places.specs.declared.Place.{Place}
use Rattle.scan.specs.declared.pass.Scanned.{Scanned}

-- The places below n under an action: their next cases, and the sets of those that deny it and that it fulfils.
pub record Sweeps (n : ℕ) (view : View) (action : ℕ) (next : List Place) (denying fulfilled : ℕ) : Type 0 where
  pub goes : next ≡ places_by n (moved_at view action)
  pub denied : denying ≡ set_below (denies_at view action) n
  pub reported : fulfilled ≡ set_below (fulfils_at view action) n

-- The action is in the list of the board's rules.
abbrev pub Playable : Option ℕ → ℕ → Type 0
Playable None action = Unit {0}
Playable (Some actions) action = action < actions

-- The pass over the places below n of a board that can be.
pub record Scans (n : ℕ) (view : View) (action : ℕ) (scanned : Scanned) : Type 0 where
  pub surveys : Surveys n view scanned.actions
  pub sweeps : Playable scanned.actions action → Sweeps n view action scanned.places scanned.denying scanned.fulfilled

-- The pass over all places; none: the board cannot be.
abbrev pub ScanGives : View → ℕ → Option Scanned → Type 0
ScanGives view action (Some scanned) = Scans place_count view action scanned
ScanGives view action None = Possible place_count view → ⊥
