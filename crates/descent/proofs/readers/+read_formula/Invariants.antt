-- `descent::readers::read_formula` meets its contract. The measure is what is unread of the text.
use Rattle.parser_state.specs.Packed.{progress_of}
use Rattle.descent.specs.Parsing.{unread}
use Rattle.descent.proofs.readers.+read_formula.Given as goal

abbrev pub decreases-read_formula : goal.decreases-read_formula
decreases-read_formula l = unread l.text.now (progress_of l.p)
