-- `lexer::words::next_word` meets its contract.
use mathlib.Core.Path.{◌∙◌}
use Prim.Native.Nat.{◌<◌}
use native.Mathlib.Omega.{arith}
use Rattle.lexer.specs.Next.{word, nothing}
use Rattle.lexer.proofs.Scanning.{no_words}
use Rattle.lexer.proofs.words.next_word.Goals as goal

pub returns-then-text-from : goal.returns-then-text-from
returns-then-text-from c = nothing (c.pass_blanks-from.ensures.same-words ∙ no_words c.args.text.now c.pass_blanks-from.result (omega arith))

pub returns : goal.returns
returns c =
    let e = c.word_end-end.ensures in
    let b = c.pass_blanks-from.ensures in
    let far : c.args.at < c.word_end-end.result = omega (arith, e.onward, b.onward) in
    rw c.token_of-token.ensures (word _ _ far e.within (b.same-words ∙ e.first_word))
