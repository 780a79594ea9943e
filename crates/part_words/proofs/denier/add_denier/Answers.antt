-- `part_words::denier::add_denier` meets its contract.
use Rattle.messages.proofs.Adding.{adds_then}
use Rattle.part_words.proofs.denier.add_denier.Goals as goal

pub returns : goal.returns
returns c = adds_then c.add_head-place.ensures (adds_then c.add_place-shown.ensures c.add_shown.ensures)
