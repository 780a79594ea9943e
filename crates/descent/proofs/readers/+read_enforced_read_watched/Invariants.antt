-- `descent::readers::read_enforced` and `read_watched`, which call each other, meet their contracts. The measure is what is unread of the text.
use Rattle.parser_state.specs.Packed.{progress_of}
use Rattle.descent.specs.Parsing.{unread}
use Rattle.descent.proofs.readers.+read_enforced_read_watched.Given as goal

abbrev pub decreases-read_enforced : goal.decreases-read_enforced
decreases-read_enforced l = unread l.text.now (progress_of l.p)

abbrev pub decreases-read_watched : goal.decreases-read_watched
decreases-read_watched l = unread l.text.now (progress_of l.p)
