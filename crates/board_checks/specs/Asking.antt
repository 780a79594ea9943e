-- What a call with an action finds, in the order of docs/FORMATS.md: 14, 25, 24, 12, and then every rule under the action.
-- Assumes nothing.
use Rattle.std.specs.Prelude.{List, ℕ, Result, Ok, Err}
use Rattle.places.specs.Layout.{place_count}
use Rattle.places.specs.declared.Board.{Board}
use Rattle.view.specs.View.{view_of}
use Rattle.view.specs.Steps.{Check, short-area, impossible, board-empty, no-action, act, checks_of, AllPass, Stops}
use Rattle.view.specs.Calls.{PassesOn}
use Rattle.scan.specs.Scans.{Sweeps}
use Rattle.scan.specs.declared.pass.Scanned.{Scanned}
use Rattle.board_checks.specs.declared.asking.AskError.{AskError}
use Rattle.board_checks.specs.declared.asking.AskError.TheVariants.{ShortArea, Impossible, EmptyBoard, NoAction}

-- The check that gives a refusal.
abbrev pub check_of : ℕ → AskError → Check
check_of action ShortArea = short-area
check_of action Impossible = impossible
check_of action EmptyBoard = board-empty
check_of action NoAction = no-action action

-- All checks pass, and the places, moved by the action, are found with the sets of those that deny it and that it fulfils.
pub record Hears (board : Board) (area : List ℕ) (action : ℕ) (heard : Scanned) : Type 0 where
  pub passed : AllPass (PassesOn board area) (checks_of (act action))
  pub sweeps : Sweeps place_count (view_of board area) action heard.places heard.denying heard.fulfilled

-- An action is refused by the first of its checks that does not pass, or heard.
abbrev pub Asks : Board → List ℕ → (action : ℕ) → Result Scanned AskError → Type 0
Asks board area action (Ok heard) = Hears board area action heard
Asks board area action (Err error) = Stops (PassesOn board area) (check_of action error) (checks_of (act action))
