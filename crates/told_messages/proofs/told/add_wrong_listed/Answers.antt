-- `told_messages::told::add_wrong_listed` meets its contract.
use Rattle.std.proofs.Common.{arith, ◌≡◌, List, ℕ, cond, ap}
use Rattle.messages.specs.Message.{filled}
use Rattle.messages.proofs.Adding.{adds_then, adds-as}
use Rattle.catalogue.specs.Catalogue.{listed_names, listed_numbers}
use Rattle.catalogue.specs.Numbers.{text_of}
use Rattle.told_messages.specs.Told.{is_there}
use Rattle.told_messages.proofs.Telling.{there}
use Rattle.told_messages.proofs.told.add_wrong_listed.Goals as goal
use Rattle.told_messages.proofs.told.add_wrong_listed.Goals.{then-is_empty, else-is_empty}

pub returns : goal.returns
returns c =
    let a = c.args in
    let last : text_of c.if-is_empty.last ≡ cond (is_there a.list.now) listed_names listed_numbers =
    elim c.if-is_empty.branch [ then-is_empty w ↦ grind (arith, there a.list.now) | else-is_empty w ↦ grind (arith, there a.list.now) ] in
    adds_then c.add_message-first.ensures
    (adds_then (adds-as (ap (λ (m : List ℕ). filled m 0 0 a.word.now) c.strange_message.ensures) c.add_message-second.ensures)
    (adds-as (ap (λ (m : List ℕ). filled m a.actions 0 a.list.now) last) c.add_message.ensures))
