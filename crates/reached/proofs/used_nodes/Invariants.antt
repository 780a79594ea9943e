-- The parts that `reached::used_nodes` goes to.
use Rattle.reached.specs.Parts.{parts_of}
use Rattle.reached.proofs.used_nodes.Given as goal

abbrev pub ghost-reached_from : goal.ghost-reached_from
ghost-reached_from a = parts_of
