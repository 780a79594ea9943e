-- `told_messages::told::add_with_word` meets its contract.
use Rattle.std.proofs.Common.{arith}
use Rattle.messages.proofs.Adding.{adds_none, adds-as}
use Rattle.catalogue.specs.Numbers.{text_of}
use Rattle.told_messages.proofs.Telling.{no_word, some_word}
use Rattle.told_messages.proofs.told.add_with_word.Goals as goal

pub returns-then-is_empty : goal.returns-then-is_empty
returns-then-is_empty c = adds-as (no_word (text_of c.args.message) c.args.word.now (grind arith)) (adds_none _ _)

pub returns : goal.returns
returns c = adds-as (some_word (text_of c.args.message) c.args.word.now (λ e. grind arith)) c.add_message.ensures
