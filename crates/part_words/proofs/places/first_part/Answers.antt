-- `part_words::places::first_part` meets its contract.
use mathlib.Core.Path.{sym, ap, ◌∙◌}
use Rattle.part_words.specs.Kinds.{part_count}
use Rattle.part_words.proofs.PlaceLaws.{no-first-part, some-first-part}
use Rattle.part_words.proofs.places.first_part.Goals as goal

pub returns-then-part_count-eq0 : goal.returns-then-part_count-eq0
returns-then-part_count-eq0 c =
    let counted = c.part_count.ensures.0 ∙ ap part_count c.node_field.ensures in
    let a = c.args in
    no-first-part a.sheet.now a.node (sym counted ∙ c.if-part_count-eq0.true)

pub returns : goal.returns
returns c =
    let counted = c.part_count.ensures.0 ∙ ap part_count c.node_field.ensures in
    let a = c.args in
    c.node_field-2.ensures ∙ some-first-part a.sheet.now a.node (λ e. c.if-part_count-eq0.false (counted ∙ e))
