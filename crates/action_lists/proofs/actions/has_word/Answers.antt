-- `action_lists::actions::has_word` meets its contract.
use Rattle.std.proofs.Common.{arith}
use Rattle.positions.proofs.Counting.{whether-there}
use Rattle.action_lists.proofs.actions.has_word.Goals as goal

pub returns : goal.returns
returns c = grind (arith, whether-there c.args.text.now c.args.number)
