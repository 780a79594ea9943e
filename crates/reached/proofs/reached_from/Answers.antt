-- `reached::reached_from` meets its contract: in a turn the set gets the parts of a node that is in it, and stays as it is at any other.
use Rattle.std.proofs.Common.{◌≡◌, suc, ◌-◌, arith}
use borrow.Author.Tests.{ne_eqb}
use Rattle.reached.proofs.reached_from.Goals as goal
use Rattle.reached.proofs.reached_from.Goals.{then-set-n-eq1, else-set-n-eq1}

pub loop-n-preserved : goal.loop-n-preserved
loop-n-preserved g c =
    let l = c.loop-n in
    let e : suc (l.n - 1) ≡ l.n = omega arith in
    elim c.if-set-n-eq1.branch [
      | then-set-n-eq1 w ↦ (
        omega arith,
        rw (e, w.set-is, w.set_of_parts-set.ensures, c.requires.1.1.0 l.n w.parts.result l.invariant.0 w.parts.ensures) (rw w.if-set-n-eq1.true at l.invariant.1),
      )
      | else-set-n-eq1 w ↦ (omega arith, rw (e, w.set-is) (rw (ne_eqb _ 1 w.if-set-n-eq1.false) at l.invariant.1))
    ]
