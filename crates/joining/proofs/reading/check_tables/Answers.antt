-- The goals of `joining::reading::check_tables` that the check leaves.
use mathlib.Core.Path.{◌≡◌}
use borrow.Author.Rules.{rules}
use Rattle.std.proofs.Common.{Err}
use Rattle.base.proofs.Lists.{tail}
use Rattle.joining.proofs.Walking.{fit-more, refused-here}
use Rattle.joining.proofs.reading.check_tables.Goals as goal

pub returns-in_err-at : goal.returns-in_err-at
returns-in_err-at c =
    let is : c.from_residual.result ≡ Err c.in_err-at.field-0.0 = search rules in
    rw is (refused-here c.loop.invariant _ c.loop-test.true _ (rw (tail c.loop.at c.args.tables.now) at c.in_err-at.ensures))

pub loop-preserved : goal.loop-preserved
loop-preserved c = fit-more c.loop.invariant _ (rw (tail c.loop.at c.args.tables.now) at c.in_ok-at.ensures)
