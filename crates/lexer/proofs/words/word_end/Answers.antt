-- The goals of `lexer::words::word_end` that the check leaves.
use mathlib.Core.Path.{sym, ◌∙◌}
use native.Mathlib.Omega.{arith}
use Rattle.lexer.proofs.Scanning.{run-begins, run_more, ends-at-blank, ends-with-text}
use Rattle.lexer.proofs.words.word_end.Goals as goal

pub loop-k-init : goal.loop-k-init
loop-k-init c = run-begins _ _ c.requires.0 c.requires.1

pub loop-k-preserved : goal.loop-k-preserved
loop-k-preserved c = run_more c.loop-k.invariant (omega arith) (sym c.is_blank.ensures ∙ c.if-is_blank.false)

pub returns-then-is_blank : goal.returns-then-is_blank
returns-then-is_blank c = ends-at-blank c.loop-k.invariant (omega arith) (sym c.is_blank.ensures ∙ c.if-is_blank.true)

pub returns : goal.returns
returns c = ends-with-text c.loop-k.invariant (omega arith)
