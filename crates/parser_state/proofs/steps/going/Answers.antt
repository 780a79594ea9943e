-- `parser_state::steps::going` meets its contract.
use mathlib.Core.Path.{ap, ◌∙◌}
use Rattle.parser_state.specs.Packed.{progress_of}
use Rattle.parser_state.proofs.Packing.{packed-going}
use Rattle.parser_state.proofs.steps.going.Goals as goal

pub returns : goal.returns
returns c =
    ap progress_of c.pack.ensures ∙ packed-going c.args.at c.args.words c.args.nodes c.requires.0 c.requires.1 c.requires.2
