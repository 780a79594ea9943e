-- `rule_files::words::TextWordsIterator::next` meets its contract: behind the word stands what is left.
use Rattle.std.proofs.Common.{◌≡◌, ◌-◌, ◌<◌, length, take, drop, length-drop, take_all, arith}
use Rattle.rule_files.proofs.Standing.{word_cut}
use Rattle.rule_files.proofs.words.TextWordsIterator.next.Goals as goal

pub returns-clause-steps : goal.returns-clause-steps
returns-clause-steps c =
    let text = c.args.self.now.rest.now in
    let to = c.word_end-to.result in
    let some : c.pass_blanks-from.result < to = omega arith in
    let e : take (length text - to) (drop to text) ≡ drop to text = take_all (length text - to) (drop to text) (omega (arith, length-drop to text)) in
    rw e (word_cut text c.pass_blanks-from.result to some (omega arith))
