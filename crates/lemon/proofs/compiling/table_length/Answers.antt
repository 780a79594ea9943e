-- `lemon::compiling::table_length` meets its contract: 64 rows of 16 entries behind 8 bytes are the most.
use Rattle.std.proofs.Common.{arith}
use Rattle.std.proofs.lemmas.Nat.{mul-le}
use Rattle.lemon.proofs.compiling.table_length.Goals as goal

pub returns : goal.returns
returns c = omega (arith, mul-le c.min-rows.result c.min-actions.result 64 16 (omega arith) (omega arith))
