-- `part_words::reading::node_field` meets its contract: the fields of a node so high are past the end, and for any other no sum overflows.
use borrow.Author.Rules.{rules}
use Rattle.part_words.proofs.FieldLaws.{past_end, field-read}
use Rattle.part_words.proofs.reading.node_field.Goals as goal

pub returns-then-sheet-node : goal.returns-then-sheet-node
returns-then-sheet-node c = let a = c.args in past_end a.sheet.now a.node a.k (search rules)

pub returns : goal.returns
returns c =
    let a = c.args in
    field-read a.sheet.now a.node a.k _ _ _ c.byte_at.ensures.0 c.byte_at-2.ensures.0 c.byte_at-3.ensures.0
