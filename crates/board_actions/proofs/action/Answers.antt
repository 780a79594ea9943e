-- `board_actions::action` meets its contract: the refusal of the first check that does not pass, or the answer by the sets of the pass.
use mathlib.Core.Path.{◌≡◌, refl, ◌∙◌, ap}
use Prim.Native.Nat.{◌<◌}
use native.Mathlib.Omega.{arith}
use borrow.Author.Rules.{rules}
use Rattle.std.specs.Prelude.{Err}
use Rattle.places.specs.Places.{with_places}
use Rattle.view.specs.Steps.{act}
use Rattle.view.proofs.Calling.{call-carried}
use Rattle.board_actions.proofs.Denying.{ask_refused, none-deny, lowest-denies}
use Rattle.board_actions.proofs.action.Goals as goal

pub returns-in_err-heard : goal.returns-in_err-heard
returns-in_err-heard c =
    let is : c.from_residual.result ≡ Err c.in_err-heard.field-0.0 = search rules in
    rw is (ask_refused _ _ _ _ c.in_err-heard.ensures)

pub returns-then-heard-ne0 : goal.returns-then-heard-ne0
returns-then-heard-ne0 c =
    let hears = c.in_ok-heard.ensures in
    let some : 0 < c.in_ok-heard.heard.denying = let n = c.if-heard-ne0.true in omega arith in
    call-carried (act _) hears.passed (lowest-denies _ _ _ _ _ hears.sweeps _ (c.lowest.ensures some)) refl refl

pub returns : goal.returns
returns c =
    let hears = c.in_ok-heard.ensures in
    call-carried (act _) hears.passed (none-deny _ _ _ _ _ hears.sweeps c.if-heard-ne0.false)
    (c.with_places.ensures ∙ ap (with_places c.args.board.now) hears.sweeps.goes) refl
