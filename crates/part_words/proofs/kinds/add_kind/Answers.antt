-- `part_words::kinds::add_kind` meets its contract.
use mathlib.Core.Path.{ap}
use Rattle.messages.proofs.Adding.{adds-as}
use Rattle.part_words.specs.Kinds.{kind_word}
use Rattle.part_words.proofs.kinds.add_kind.Goals as goal

pub returns : goal.returns
returns c = adds-as (ap kind_word c.node_field.ensures) c.add_word.ensures
