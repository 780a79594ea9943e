-- The goals of `explaining::reading::lowest_tripped` that the check leaves.
use mathlib.Core.Path.{sym, ◌∙◌}
use native.Mathlib.Omega.{arith}
use borrow.Author.Count.{below_more}
use borrow.Author.Tests.{eqb-true, eq-eqb}
use Rattle.rules.specs.Rules.{part_at}
use Rattle.explaining.proofs.Walks.{tripped-at, untripped-at}
use Rattle.explaining.proofs.reading.lowest_tripped.Goals as goal
use Rattle.explaining.proofs.reading.lowest_tripped.Goals.{else-set-n-eq1-via-then-set-n-eq1+else-is_some, else-set-n-eq1-via-else-set-n-eq1}

pub returns-then-is_some : goal.returns-then-is_some
returns-then-is_some c =
    record {
      within = omega arith;
      chosen = λ h. (eq-eqb _ 1 c.if-set-n-eq1.true, tripped-at (part_at c.args.parts.actions c.args.parts.work.now c.loop-n.n) c.args.list.now c.first_trip.result c.first_trip.ensures (sym c.is_some.ensures ∙ c.if-is_some.true));
      passed = c.loop-n.invariant;
    }

pub loop-n-preserved : goal.loop-n-preserved
loop-n-preserved c =
    below_more _ _ c.loop-n.invariant
    (λ e. elim c.else-set-n-eq1.branch [
      | else-set-n-eq1-via-then-set-n-eq1+else-is_some w ↦
          untripped-at (part_at c.args.parts.actions c.args.parts.work.now c.loop-n.n) c.args.list.now w.first_trip.result w.first_trip.ensures (λ q. let p = sym w.is_some.ensures ∙ w.if-is_some.false in cc)
      | else-set-n-eq1-via-else-set-n-eq1 w ↦ absurd (w.if-set-n-eq1.false (eqb-true _ 1 e))
    ])
