-- `part_words::denier::add_shown` meets its contract.
use Rattle.messages.proofs.Adding.{adds_then}
use Rattle.part_words.proofs.denier.add_shown.Goals as goal

pub returns : goal.returns
returns c = adds_then c.say-words.ensures (adds_then c.add_part-next.ensures c.say.ensures)
