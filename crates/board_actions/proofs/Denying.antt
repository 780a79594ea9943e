-- The answer to an action: refused by a check, or by the sets of the pass permitted where no place denies it, else denied by the lowest that does.
-- Assumes nothing.
use mathlib.Core.Path.{◌≡◌, sym, ◌∙◌, ap}
use mathlib.Core.Bool.{true}
use mathlib.Core.List.{List}
use Prim.Native.Nat.{ℕ, ◌<◌, ◌/◌, ◌%◌, ◌^◌}
use native.Mathlib.Omega.{arith}
use Rattle.std.specs.Prelude.{Err}
use Rattle.base.specs.Sets.{LowestIn}
use Rattle.base.proofs.Sets.{member-test, missing-test, empty-test}
use Rattle.places.specs.Layout.{place_count}
use Rattle.places.specs.declared.Place.{Place}
use Rattle.view.specs.View.{View, stays, moves}
use Rattle.view.specs.Moves.{denies_at, moved_at, NoneDenies}
use Rattle.view.specs.Steps.{act, denied, permitted, Carries, is-denied, is-permitted}
use Rattle.places.specs.declared.Board.{Board}
use Rattle.view.specs.Calls.{Calls}
use Rattle.view.proofs.Calling.{call-refused}
use Rattle.scan.specs.Scans.{Sweeps}
use Rattle.board_checks.specs.Asking.{Asks}
use Rattle.board_checks.specs.declared.asking.AskError.{AskError}
use Rattle.board_checks.specs.declared.asking.AskError.TheVariants.{ShortArea, Impossible, EmptyBoard, NoAction}
use Rattle.board_actions.specs.Replies.{act_reply}

pub ask_refused : (board : Board) (area : List ℕ) (action : ℕ) (e : AskError) → Asks board area action (Err e) → Calls board area (act action) (act_reply (Err e)) board area
ask_refused board area action ShortArea s = call-refused (act action) s
ask_refused board area action Impossible s = call-refused (act action) s
ask_refused board area action EmptyBoard s = call-refused (act action) s
ask_refused board area action NoAction s = call-refused (act action) s

module _ (view : View) (action : ℕ) (next : List Place) (denying fulfilled : ℕ) (sweeps : Sweeps place_count view action next denying fulfilled) where
  pub none-deny : denying ≡ 0 → Carries place_count view (act action) (permitted fulfilled) (moves (moved_at view action))
  none-deny e = rw sweeps.reported (is-permitted (empty-test (denies_at view action) place_count (sym sweeps.denied ∙ e)))

  pub lowest-denies : (place : ℕ) → LowestIn denying place → Carries place_count view (act action) (denied place) stays
  lowest-denies place l = is-denied place member.0 member.1 lower
    where
      member : (place < place_count) × (denies_at view action place ≡ true)
      member = member-test (denies_at view action) place_count place (ap (λ (n : ℕ). n / 2 ^ place % 2) (sym sweeps.denied) ∙ l.member)

      lower : NoneDenies view action place
      lower i h =
          missing-test (denies_at view action) place_count i (omega (arith, member.0))
          (ap (λ (n : ℕ). n / 2 ^ i % 2) (sym sweeps.denied) ∙ l.lowest i h)
