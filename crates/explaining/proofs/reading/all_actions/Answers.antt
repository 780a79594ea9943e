-- `explaining::reading::all_actions`: a list of numbers below the number of actions is a sequence.
use borrow.Author.Rules.{rules}
use Rattle.explaining.proofs.Walks.{sequence-decided}
use Rattle.explaining.proofs.reading.all_actions.Goals as goal

pub returns : goal.returns
returns c = sequence-decided c.args.actions c.args.list.now c.all.result (search rules)
