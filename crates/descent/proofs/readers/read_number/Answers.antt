-- `descent::readers::read_number` meets its contract.
use Rattle.grammar.specs.declared.Category.TheVariants.{Number}
use Rattle.descent.proofs.Arms.{word-taken, none-taken, number-here, number-stuck, number-over}
use Rattle.descent.proofs.Misfits.{left-over}
use Rattle.descent.proofs.readers.read_number.Goals as goal

pub returns-in_default : goal.returns-in_default
returns-in_default c =
    number-over _ c.requires (none-taken c.take_word.ensures c.in_default.is) c.stuck.ensures

pub returns-in-Number : goal.returns-in-Number
returns-in-Number c =
    number-here (word-taken c.take_word.ensures c.in-Word.is) c.in-Number.is

pub returns-in_default-token : goal.returns-in_default-token
returns-in_default-token c =
    let h = word-taken c.take_word.ensures c.in-Word.is in
    number-stuck h (left-over h Number c.in_default-token.not-Number) c.stuck.ensures
