-- `print_rule::rule::table_length` meets its contract: 64 rows of 16 entries behind 8 bytes are the most.
use Prim.Native.Nat.{◌≤◌}
use native.Mathlib.Nat.{mul-le-mul}
use native.Mathlib.Omega.{arith}
use Rattle.print_rule.proofs.rule.table_length.Goals as goal

pub returns : goal.returns
returns c =
    let rows : c.min.result ≤ 64 = omega arith in
    let actions : c.min-2.result ≤ 16 = omega arith in
    (omega arith, omega (arith, mul-le-mul {n₂ = 64} {m₂ = 16} rows actions))
