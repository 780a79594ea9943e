-- `parser_state::closing::close_three` meets its contract.
use Rattle.parser_state.proofs.closing.close_three.Goals as goal

pub returns : goal.returns
returns c = rw (← c.root.ensures, ← c.root-2.ensures, ← c.root-3.ensures) c.close.ensures
