-- `loader::load` meets its contract: one way out of `Loads` for each answer.
use Rattle.base.proofs.Lists.{tail}
use Rattle.table.specs.Answer.{malformed}
use Rattle.table.proofs.Formed.{rows_fit, loads-accepted, loads-refused}
use Rattle.loader.proofs.load.Goals as goal

pub returns-in_default : goal.returns-in_default
returns-in_default c = malformed c.in_default.ensures

pub canonical-requires : goal.canonical-requires
canonical-requires c = rw (tail 8) (rows_fit _ _ c.in-Some.ensures)

pub returns-then-canonical : goal.returns-then-canonical
returns-then-canonical c = loads-accepted _ _ c.in-Some.ensures (rw (tail 8) at c.if-canonical.ensures)

pub returns-else-canonical : goal.returns-else-canonical
returns-else-canonical c = loads-refused _ _ c.in-Some.ensures (rw (tail 8) at c.if-canonical.ensures)
