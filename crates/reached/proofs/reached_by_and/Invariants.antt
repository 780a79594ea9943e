-- The parts that `reached::reached_by_and` goes to.
use Rattle.reached.specs.Parts.{and_parts}
use Rattle.reached.proofs.reached_by_and.Given as goal

abbrev pub ghost-reached_from : goal.ghost-reached_from
ghost-reached_from a = and_parts
