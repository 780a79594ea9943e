-- `parser_state::closing::close_two` meets its contract.
use Rattle.parser_state.proofs.closing.close_two.Goals as goal

pub returns : goal.returns
returns c = rw (← c.root.ensures, ← c.root-2.ensures) c.close.ensures
