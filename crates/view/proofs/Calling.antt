-- A call of the board that a check refuses, and one that is carried out.
-- Assumes nothing.
use mathlib.Core.Path.{◌≡◌, refl}
use mathlib.Core.List.{List, [], ◌∷◌}
use Prim.Native.Nat.{ℕ}
use Rattle.places.specs.Layout.{place_count}
use Rattle.places.specs.declared.Board.{Board}
use Rattle.view.specs.View.{view_of, Change, stays, board_after, area_after}
use Rattle.view.specs.Steps.{Call, Reply, Check, refusal, checks_of, AllPass, Stops, here, later, Carries, Answers, refused, passed, carried}
use Rattle.view.specs.Calls.{Calls, PassesOn}

module _ {Pass : Check → Type 0} {Carried : Reply → Change → Type 0} where
  stopped : {check : Check} {checks : List Check} → Stops Pass check checks → Answers Pass Carried (refusal check) stays checks
  stopped (here n) = refused n refl refl
  stopped (later p s) = passed p (stopped s)

  all-passed : {reply : Reply} {change : Change} (checks : List Check) → AllPass Pass checks → Carried reply change → Answers Pass Carried reply change checks
  all-passed [] all d = carried d
  all-passed (check ∷ rest) all d = passed all.0 (all-passed rest all.1 d)

module _ {board : Board} {area : List ℕ} (call : Call) where
  pub call-refused : {check : Check} → Stops (PassesOn board area) check (checks_of call) → Calls board area call (refusal check) board area
  call-refused s = record { change = stays; step = stopped s; board-is = refl; area-is = refl }

  pub call-carried : {reply : Reply} {change : Change} → AllPass (PassesOn board area) (checks_of call) → Carries place_count (view_of board area) call reply change
      → {next : Board} {rest : List ℕ} → next ≡ board_after change board → rest ≡ area_after change area → Calls board area call reply next rest
  call-carried {change = change} all d e f = record { change = change; step = all-passed (checks_of call) all d; board-is = e; area-is = f }
