-- `places::area::place_bytes` meets its contract.
use Rattle.places.proofs.AreaLaws.{part-is}
use Rattle.places.proofs.area.place_bytes.Goals as goal

pub returns : goal.returns
returns c =
    let g = c.args in
    part-is g.place g.area.now c.start_of-from.result c.start_of-from.ensures
