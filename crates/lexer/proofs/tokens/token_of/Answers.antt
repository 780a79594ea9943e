-- `lexer::tokens::token_of` meets its contract: a word is the first of the language's own words that it is, and else a proposition, a number or none.
use Rattle.grammar.specs.Spelling.{token_of, whether}
use Rattle.lexer.specs.Tables.{numbered}
use Rattle.lexer.proofs.tokens.token_of.Goals as goal

pub returns-then-same : goal.returns-then-same
unfolding token_of whether
returns-then-same c = rw (← c.if-same.ensures)

pub returns-then-same-2 : goal.returns-then-same-2
unfolding token_of whether
returns-then-same-2 c = rw (← c.if-same.ensures, ← c.if-same-2.ensures)

pub returns-then-same-3 : goal.returns-then-same-3
unfolding token_of whether
returns-then-same-3 c = rw (← c.if-same.ensures, ← c.if-same-2.ensures, ← c.if-same-3.ensures)

pub returns-then-same-4 : goal.returns-then-same-4
unfolding token_of whether
returns-then-same-4 c = rw (← c.if-same.ensures, ← c.if-same-2.ensures, ← c.if-same-3.ensures, ← c.if-same-4.ensures)

pub returns-then-same-5 : goal.returns-then-same-5
unfolding token_of whether
returns-then-same-5 c = rw (← c.if-same.ensures, ← c.if-same-2.ensures, ← c.if-same-3.ensures, ← c.if-same-4.ensures, ← c.if-same-5.ensures)

pub returns-then-same-6 : goal.returns-then-same-6
unfolding token_of whether
returns-then-same-6 c = rw (← c.if-same.ensures, ← c.if-same-2.ensures, ← c.if-same-3.ensures, ← c.if-same-4.ensures, ← c.if-same-5.ensures, ← c.if-same-6.ensures)

pub returns-then-same-7 : goal.returns-then-same-7
unfolding token_of whether
returns-then-same-7 c = rw (← c.if-same.ensures, ← c.if-same-2.ensures, ← c.if-same-3.ensures, ← c.if-same-4.ensures, ← c.if-same-5.ensures, ← c.if-same-6.ensures, ← c.if-same-7.ensures)

pub returns-then-same-8 : goal.returns-then-same-8
unfolding token_of whether
returns-then-same-8 c = rw (← c.if-same.ensures, ← c.if-same-2.ensures, ← c.if-same-3.ensures, ← c.if-same-4.ensures, ← c.if-same-5.ensures, ← c.if-same-6.ensures, ← c.if-same-7.ensures, ← c.if-same-8.ensures)

pub returns-then-same-9 : goal.returns-then-same-9
unfolding token_of whether
returns-then-same-9 c = rw (← c.if-same.ensures, ← c.if-same-2.ensures, ← c.if-same-3.ensures, ← c.if-same-4.ensures, ← c.if-same-5.ensures, ← c.if-same-6.ensures, ← c.if-same-7.ensures, ← c.if-same-8.ensures, ← c.if-same-9.ensures)

pub returns-then-same-10 : goal.returns-then-same-10
unfolding token_of whether
returns-then-same-10 c = rw (← c.if-same.ensures, ← c.if-same-2.ensures, ← c.if-same-3.ensures, ← c.if-same-4.ensures, ← c.if-same-5.ensures, ← c.if-same-6.ensures, ← c.if-same-7.ensures, ← c.if-same-8.ensures, ← c.if-same-9.ensures, ← c.if-same-10.ensures)

pub returns-then-same-11 : goal.returns-then-same-11
unfolding token_of whether
returns-then-same-11 c = rw (← c.if-same.ensures, ← c.if-same-2.ensures, ← c.if-same-3.ensures, ← c.if-same-4.ensures, ← c.if-same-5.ensures, ← c.if-same-6.ensures, ← c.if-same-7.ensures, ← c.if-same-8.ensures, ← c.if-same-9.ensures, ← c.if-same-10.ensures, ← c.if-same-11.ensures)

pub returns-then-same-12 : goal.returns-then-same-12
unfolding token_of whether
returns-then-same-12 c = rw (← c.if-same.ensures, ← c.if-same-2.ensures, ← c.if-same-3.ensures, ← c.if-same-4.ensures, ← c.if-same-5.ensures, ← c.if-same-6.ensures, ← c.if-same-7.ensures, ← c.if-same-8.ensures, ← c.if-same-9.ensures, ← c.if-same-10.ensures, ← c.if-same-11.ensures, ← c.if-same-12.ensures)

pub returns-then-same-13 : goal.returns-then-same-13
unfolding token_of whether
returns-then-same-13 c = rw (← c.if-same.ensures, ← c.if-same-2.ensures, ← c.if-same-3.ensures, ← c.if-same-4.ensures, ← c.if-same-5.ensures, ← c.if-same-6.ensures, ← c.if-same-7.ensures, ← c.if-same-8.ensures, ← c.if-same-9.ensures, ← c.if-same-10.ensures, ← c.if-same-11.ensures, ← c.if-same-12.ensures, ← c.if-same-13.ensures)

pub returns-then-same-14 : goal.returns-then-same-14
unfolding token_of whether
returns-then-same-14 c = rw (← c.if-same.ensures, ← c.if-same-2.ensures, ← c.if-same-3.ensures, ← c.if-same-4.ensures, ← c.if-same-5.ensures, ← c.if-same-6.ensures, ← c.if-same-7.ensures, ← c.if-same-8.ensures, ← c.if-same-9.ensures, ← c.if-same-10.ensures, ← c.if-same-11.ensures, ← c.if-same-12.ensures, ← c.if-same-13.ensures, ← c.if-same-14.ensures)

pub returns-then-same-15 : goal.returns-then-same-15
unfolding token_of whether
returns-then-same-15 c = rw (← c.if-same.ensures, ← c.if-same-2.ensures, ← c.if-same-3.ensures, ← c.if-same-4.ensures, ← c.if-same-5.ensures, ← c.if-same-6.ensures, ← c.if-same-7.ensures, ← c.if-same-8.ensures, ← c.if-same-9.ensures, ← c.if-same-10.ensures, ← c.if-same-11.ensures, ← c.if-same-12.ensures, ← c.if-same-13.ensures, ← c.if-same-14.ensures, ← c.if-same-15.ensures)

pub returns-then-same-16 : goal.returns-then-same-16
unfolding token_of whether
returns-then-same-16 c = rw (← c.if-same.ensures, ← c.if-same-2.ensures, ← c.if-same-3.ensures, ← c.if-same-4.ensures, ← c.if-same-5.ensures, ← c.if-same-6.ensures, ← c.if-same-7.ensures, ← c.if-same-8.ensures, ← c.if-same-9.ensures, ← c.if-same-10.ensures, ← c.if-same-11.ensures, ← c.if-same-12.ensures, ← c.if-same-13.ensures, ← c.if-same-14.ensures, ← c.if-same-15.ensures, ← c.if-same-16.ensures)

pub returns-else-same-16 : goal.returns-else-same-16
unfolding token_of whether numbered
returns-else-same-16 c = rw (← c.if-same.ensures, ← c.if-same-2.ensures, ← c.if-same-3.ensures, ← c.if-same-4.ensures, ← c.if-same-5.ensures, ← c.if-same-6.ensures, ← c.if-same-7.ensures, ← c.if-same-8.ensures, ← c.if-same-9.ensures, ← c.if-same-10.ensures, ← c.if-same-11.ensures, ← c.if-same-12.ensures, ← c.if-same-13.ensures, ← c.if-same-14.ensures, ← c.if-same-15.ensures, ← c.if-same-16.ensures, c.numbered.ensures)
