-- `messages::numbers::add_three` meets its contract.
use Rattle.messages.proofs.Adding.{adds_then}
use Rattle.messages.proofs.numbers.add_three.Goals as goal

pub returns : goal.returns
returns c = adds_then c.put_digit-tens.ensures (adds_then c.put_digit-ones.ensures c.put_digit.ensures)
