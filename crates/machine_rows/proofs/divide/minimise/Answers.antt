-- `machine_rows::divide::minimise` meets its contract: the classes of alike states, and the quotient by them.
use native.Mathlib.Omega.{arith}
use lib.ListN.{length}
use Rattle.machine_rows.proofs.Minimising.{divisible, divided}
use Rattle.machine_rows.proofs.divide.minimise.Goals as goal

pub quotient-requires : goal.quotient-requires
quotient-requires c =
    let a = c.args in
    let z = c.requires in
    let counted = c.in_ok-count.ensures 65535 z.machine in
    divisible (length a.classes.now) a.actions a.next.now a.limit c.in_ok-count.count c.refine.new.classes c.refine.new.firsts
    z.acting z.some z.machine counted.1 counted.0 _
    (omega (arith, c.refine.auto, c.room-firsts.ensures, z.limited.high)) (omega (arith, c.fill.auto, z.room))

pub returns : goal.returns
returns c =
    let a = c.args in
    let z = c.requires in
    let counted = c.in_ok-count.ensures 65535 z.machine in
    divided (length a.classes.now) a.actions a.next.now a.limit c.in_ok-count.count c.refine.new.classes c.refine.new.firsts
    z.acting z.some z.machine counted.1 counted.0 z.numbered z.limited.high (omega (arith, c.refine.auto))
    (length a.slot.now) c.fill.new.self c.quotient.new.out (c.fill.ensures.after (λ y e. e)) c.quotient.ensures
