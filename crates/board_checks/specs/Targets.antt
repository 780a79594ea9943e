-- What a call that names a place finds there, in the order of docs/FORMATS.md: 14, 13, 25, and then whether the place is taken.
-- Assumes nothing.
use Rattle.std.specs.Prelude.{◌≡◌, true, false, List, ℕ, ◌≤◌, Option, Result, Ok, Err}
use Rattle.places.specs.Layout.{place_count, LongEnough, Within}
use Rattle.places.specs.Places.{case_at, taken}
use Rattle.places.specs.declared.Board.{Board}
use Rattle.view.specs.View.{view_of}
use Rattle.view.specs.Calls.{CanBe}
use Rattle.scan.specs.Survey.{Surveys}
use Rattle.board_checks.specs.declared.targets.Target.{Target}
use Rattle.board_checks.specs.declared.targets.Target.TheVariants.{Taken, Empty}
use Rattle.board_checks.specs.declared.targets.TargetError.{TargetError}
use Rattle.board_checks.specs.declared.targets.TargetError.TheVariants.{ShortArea, NoPlace, Impossible}

pub record TakenTarget (board : Board) (area : List ℕ) (place : ℕ) : Type 0 where
  pub within : Within area place
  pub can : CanBe place_count board area
  pub on : taken (case_at board place) ≡ true

pub record EmptyTarget (board : Board) (area : List ℕ) (place : ℕ) (actions : Option ℕ) : Type 0 where
  pub within : Within area place
  pub can : CanBe place_count board area
  pub free : taken (case_at board place) ≡ false
  pub surveyed : Surveys place_count (view_of board area) actions

abbrev pub Looks : Board → List ℕ → ℕ → Result Target TargetError → Type 0
Looks board area place (Ok Taken) = TakenTarget board area place
Looks board area place (Ok (Empty actions)) = EmptyTarget board area place actions
Looks board area place (Err ShortArea) = LongEnough area → ⊥
Looks board area place (Err NoPlace) = LongEnough area × (place_count ≤ place)
Looks board area place (Err Impossible) = Within area place × (CanBe place_count board area → ⊥)
