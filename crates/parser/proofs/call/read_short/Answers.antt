-- `parser::call::read_short` meets its contract: where reading is stuck, too many nodes, or the sheet.
use mathlib.Core.Path.{subst, sym, ◌∙◌}
use Rattle.descent.specs.Parsing.{ParsesText}
use Rattle.parser.proofs.TextAnswers.{answers-stuck, answers-many, answers-sheet}
use Rattle.parser.proofs.call.read_short.Goals as goal

pub returns-in-Stuck : goal.returns-in-Stuck
returns-in-Stuck c =
    answers-stuck (subst (ParsesText _ _) (sym c.unpack.ensures ∙ c.in-Stuck.is) c.read_rule.ensures.0)

pub returns-then-nodes-gt64 : goal.returns-then-nodes-gt64
returns-then-nodes-gt64 c =
    answers-many (subst (ParsesText _ _) (sym c.unpack.ensures ∙ c.in-Going.is) c.read_rule.ensures.0) c.if-nodes-gt64.true

pub returns : goal.returns
returns c =
    answers-sheet (subst (ParsesText _ _) (sym c.unpack.ensures ∙ c.in-Going.is) c.read_rule.ensures.0) c.if-nodes-gt64.false c.write_sheet.ensures
