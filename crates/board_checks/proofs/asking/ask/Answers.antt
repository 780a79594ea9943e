-- `board_checks::asking::ask` meets its contract: the first check that does not pass.
use mathlib.Core.Path.{◌≡◌, sym, ◌∙◌}
use native.Mathlib.Omega.{arith}
use borrow.Author.Rules.{rules}
use Rattle.std.specs.Prelude.{None, Some, Err}
use Rattle.trace.proofs.Laws.{not-both}
use Rattle.places.specs.Layout.{LongEnough}
use Rattle.view.specs.Steps.{here, later}
use Rattle.board_checks.specs.declared.asking.AskError.TheVariants.{Impossible, EmptyBoard}
use Rattle.board_checks.proofs.asking.ask.Goals as goal

pub returns-then-area-lt-AREA_LENGTH : goal.returns-then-area-lt-AREA_LENGTH
returns-then-area-lt-AREA_LENGTH c = here (λ w. omega arith)

pub returns-in_err-scanned : goal.returns-in_err-scanned
returns-in_err-scanned c =
    let whole : LongEnough c.args.area.now = omega arith in
    let none : c.scan.result ≡ None = search rules in
    let is : c.from_residual.result ≡ Err Impossible = search rules in
    rw is (later whole (here (rw none at c.scan.ensures)))

pub returns-in_err-actions : goal.returns-in_err-actions
returns-in_err-actions c =
    let whole : LongEnough c.args.area.now = omega arith in
    let some : c.scan.result ≡ Some c.in_ok-scanned.scanned = search rules in
    let none : c.in_ok-scanned.scanned.actions ≡ None = search rules in
    let is : c.from_residual-in_err-actions.result ≡ Err EmptyBoard = search rules in
    let s = rw none at (rw some at c.scan.ensures).surveys in
    rw is (later whole (later s.0 (here (λ o. not-both (sym o.on ∙ s.1 o.place o.below)))))

pub returns-then-actions-action : goal.returns-then-actions-action
returns-then-actions-action c =
    let whole : LongEnough c.args.area.now = omega arith in
    let some : c.scan.result ≡ Some c.in_ok-scanned.scanned = search rules in
    let actions : c.in_ok-scanned.scanned.actions ≡ Some c.in_ok-actions.actions = search rules in
    let s = rw actions at (rw some at c.scan.ensures).surveys in
    later whole (later s.possible (later s.some (here (λ l. let same = s.same l.place l.below l.on in omega (arith, l.listed, c.if-actions-action.true, same)))))
