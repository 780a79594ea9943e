-- `messages::numbers::add_number` meets its contract.
use Rattle.messages.proofs.Adding.{adds_then, adds-as}
use Rattle.messages.proofs.Pieces.{decimal-low, decimal-high}
use borrow.Author.Rules.{rules}
use Rattle.messages.proofs.numbers.add_number.Goals as goal

pub returns-then-n-lt1000 : goal.returns-then-n-lt1000
returns-then-n-lt1000 c = adds-as (decimal-low _ (search rules)) c.add_short.ensures

pub returns : goal.returns
returns c = adds-as (decimal-high _ (search rules)) (adds_then c.add_short-next.ensures c.add_three.ensures)
