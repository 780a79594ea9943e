-- `part_words::denier::add_head` meets its contract.
use Rattle.messages.proofs.Adding.{adds_then}
use Rattle.part_words.proofs.denier.add_head.Goals as goal

pub returns : goal.returns
returns c = adds_then c.say-kind.ensures (adds_then c.add_kind-next.ensures c.say.ensures)
