-- `node_rules::sets::proposition_set`: one more action fits the set's 16 bits.
use Prim.Native.Nat.{suc, ◌<◌}
use native.Mathlib.Nat.{pow-suc}
use native.Mathlib.Omega.{arith}
use lib.Pow.{pow_mono}
use lib.ListN.{get_or}
use Rattle.base.specs.Sets.{bit}
use Rattle.base.proofs.Sets.{set-width}
use Rattle.node_rules.proofs.sets.proposition_set.Goals as goal

pub overflow_add-set : goal.overflow_add-set
overflow_add-set c =
    let a = c.loop-a.a in
    let h : a < 16 = omega arith in
    omega (arith, c.only-set.ensures, c.loop-a.invariant, set-width (λ x. bit (get_or c.args.sheet.now.propositions x 0) c.args.p) a, pow_mono {i = suc a} {j = 16} h, pow-suc 2 a)
