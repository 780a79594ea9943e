-- `messages::numbers::add_short` meets its contract.
use Rattle.messages.proofs.Adding.{adds_then, adds-as}
use Rattle.messages.proofs.Pieces.{short-one, short-two, short-three}
use borrow.Author.Rules.{rules}
use Rattle.messages.proofs.numbers.add_short.Goals as goal

pub returns-then-n-lt10 : goal.returns-then-n-lt10
returns-then-n-lt10 c = adds-as (short-one _ (search rules)) c.put_digit.ensures

pub returns-then-n-lt100 : goal.returns-then-n-lt100
returns-then-n-lt100 c = adds-as (short-two _ (search rules) (search rules)) (adds_then c.put_digit-ones.ensures c.put_digit-then-n-lt100.ensures)

pub returns : goal.returns
returns c = adds-as (short-three _ (search rules)) c.add_three.ensures
