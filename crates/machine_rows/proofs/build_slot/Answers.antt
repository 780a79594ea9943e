-- `machine_rows::build_slot` meets its contract: what is built in small lists stands.
use native.Mathlib.Omega.{arith}
use Rattle.machine_rows.proofs.Building.{rows-wider}
use Rattle.machine_rows.proofs.build_slot.Goals as goal

pub returns-in-Ok : goal.returns-in-Ok
returns-in-Ok g c = rows-wider _ (omega arith) c.in-Ok.ensures
