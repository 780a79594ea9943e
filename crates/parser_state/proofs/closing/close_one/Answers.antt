-- `parser_state::closing::close_one` meets its contract.
use Rattle.parser_state.proofs.closing.close_one.Goals as goal

pub returns : goal.returns
returns c = rw (← c.root.ensures) c.close.ensures
