-- `parser_state::closing::root` meets its contract.
use mathlib.Core.Path.{ap, sym, ◌∙◌}
use Rattle.parser_state.specs.Progress.{root_of}
use Rattle.parser_state.proofs.closing.root.Goals as goal

pub returns-in-Going : goal.returns-in-Going
returns-in-Going c = ap root_of (sym c.in-Going.is ∙ c.unpack.ensures)

pub returns-in-Stuck : goal.returns-in-Stuck
returns-in-Stuck c = ap root_of (sym c.in-Stuck.is ∙ c.unpack.ensures)
