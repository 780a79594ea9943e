-- The goal of `records::encoding::words_of` that the check leaves.
use borrow.Author.Rules.{rules}
use Rattle.records.proofs.Words.{words_more}
use Rattle.records.proofs.encoding.words_of.Goals as goal

pub loop-i-preserved : goal.loop-i-preserved
loop-i-preserved c = (search rules, words_more _ _ _ _ (search rules) c.loop-i.invariant.1 c.place_word.ensures)
