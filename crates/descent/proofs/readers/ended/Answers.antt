-- `descent::readers::ended` meets its contract.
use Rattle.parser_state.specs.Packed.{progress_of}
use Rattle.descent.proofs.Arms.{word-taken, none-taken, ended-not, ended-over}
use Rattle.descent.proofs.readers.ended.Goals as goal

pub returns-in-Nothing : goal.returns-in-Nothing
returns-in-Nothing c = ended-over c.args.text.now (progress_of c.args.p) (none-taken c.take_word.ensures c.in-Nothing.is)

pub returns-in-Word : goal.returns-in-Word
returns-in-Word c = ended-not (word-taken c.take_word.ensures c.in-Word.is) c.stuck.ensures
