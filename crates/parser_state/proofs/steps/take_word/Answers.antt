-- `parser_state::steps::take_word` meets its contract.
use mathlib.Core.Path.{sym, ◌∙◌}
use native.Mathlib.Omega.{arith}
use Rattle.parser_state.specs.Progress.{word, nothing}
use Rattle.parser_state.proofs.TakenWords.{here, none_here, few-counts, few_bytes, exhausted, exhausted-stuck}
use Rattle.parser_state.proofs.steps.take_word.Goals as goal

pub returns-in_default : goal.returns-in_default
returns-in_default c =
    nothing (exhausted-stuck c.args.text.now (sym c.unpack.ensures ∙ c.in_default.is))

pub overflow_add-words : goal.overflow_add-words
overflow_add-words c = omega (arith, few-counts c.requires (sym c.unpack.ensures ∙ c.in-Going.is))

pub going-requires : goal.going-requires
going-requires c =
    let few = few-counts c.requires (sym c.unpack.ensures ∙ c.in-Going.is) in
    (omega (arith, few_bytes c.requires c.read_word.ensures c.in-Some.is), omega arith, omega arith)

pub returns-in-Some : goal.returns-in-Some
returns-in-Some c = word (here c.requires (sym c.unpack.ensures ∙ c.in-Going.is) c.read_word.ensures c.in-Some.is c.going.ensures)

pub returns-in-None : goal.returns-in-None
returns-in-None c = nothing (exhausted c.args.text.now (sym c.unpack.ensures ∙ c.in-Going.is) (none_here c.read_word.ensures c.in-None.is))
