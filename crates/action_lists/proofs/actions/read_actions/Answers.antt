-- `action_lists::actions::read_actions` meets its contract.
use Rattle.std.proofs.Common.{rules, arith, ◌≡◌, sym, ap, ◌∙◌, [], ◌<◌, length, get_or, false, Some, length-set}
use lib.Seq.{drop-set-lt}
use borrow.Author.Tests.{ltb-true}
use Rattle.grammar.specs.Words.{Word, words_of}
use Rattle.action_lists.specs.ActionLists.{action_of, is_doubled}
use Rattle.action_lists.proofs.Reading.{one-read}
use Rattle.action_lists.proofs.actions.read_actions.Goals as goal

pub loop-number-preserved : goal.loop-number-preserved
loop-number-preserved c =
    let l = c.loop-number in
    let words = words_of c.args.line.now in
    let word = c.word_of-word.ensures in
    let there : l.number < length words = ltb-true l.number (length words) (search rules) in
    let read : action_of (get_or words l.number []) ≡ Some c.in_ok-set.set = ap action_of (sym word) ∙ search rules in
    let apart : is_doubled words (get_or words l.number []) l.number ≡ false = ap (λ (w : Word). is_doubled words w l.number) (sym word) ∙ search rules in
    (simp length-set l.invariant.0, drop-set-lt 16 l.sets l.number _ (omega arith) ∙ l.invariant.1, one-read l.invariant.2 (omega (arith, l.invariant.0)) there read apart)
