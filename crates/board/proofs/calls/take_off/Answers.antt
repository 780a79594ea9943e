-- `board::calls::take_off` meets its contract.
use mathlib.Core.Path.{◌≡◌, sym, ◌∙◌}
use borrow.Author.Rules.{rules}
use Rattle.std.specs.Prelude.{Err}
use Rattle.trace.proofs.Laws.{not-both}
use Rattle.view.specs.Steps.{take-off, here, later, takes}
use Rattle.view.proofs.Calling.{call-refused, call-carried}
use Rattle.board.specs.declared.errors.TakeError.TheVariants.{Target}
use Rattle.board.proofs.Refused.{target-refused}
use Rattle.board.proofs.calls.take_off.Goals as goal

pub returns-in_err-look_at : goal.returns-in_err-look_at
returns-in_err-look_at c =
    let is : c.from_residual.result ≡ Err (Target c.in_err-look_at.field-0.0) = search rules in
    rw is (target-refused _ _ _ (take-off _) _ (λ check s. call-refused (take-off _) s) c.in_err-look_at.field-0.0 c.in_err-look_at.ensures)

pub returns-in_default : goal.returns-in_default
returns-in_default c =
    let l = rw c.in_default.is at c.in_ok-look_at.ensures in
    call-refused (take-off _) (later l.within.whole (later l.within.below (later l.can (here (λ e. not-both (sym e ∙ l.free))))))

pub returns : goal.returns
returns c =
    let t = rw c.in-Taken.is at c.in_ok-look_at.ensures in
    call-carried (take-off _) (t.within.whole, (t.within.below, (t.can, (t.on, tt)))) takes c.with_case.ensures c.write_place.ensures
