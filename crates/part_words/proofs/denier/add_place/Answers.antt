-- `part_words::denier::add_place` meets its contract.
use borrow.Author.Rules.{rules}
use Rattle.messages.proofs.Adding.{adds_none, adds_then, adds-as}
use Rattle.part_words.proofs.DenierLaws.{no_place, some-place}
use Rattle.part_words.proofs.denier.add_place.Goals as goal

pub returns-then-line-eq0 : goal.returns-then-line-eq0
returns-then-line-eq0 c = adds-as (no_place _ _ _ (search rules)) (adds_none _ _)

pub returns : goal.returns
returns c = adds-as (some-place _ _ _ (search rules)) (adds_then c.add_rule-next.ensures c.say.ensures)
