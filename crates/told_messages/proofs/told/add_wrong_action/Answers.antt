-- `told_messages::told::add_wrong_action` meets its contract.
use Rattle.std.proofs.Common.{arith, ◌≡◌, [], List, ℕ, cond, ap}
use Rattle.messages.specs.Message.{filled}
use Rattle.messages.proofs.Adding.{adds_then, adds-as}
use Rattle.catalogue.specs.Catalogue.{name_form, nothing_comes}
use Rattle.catalogue.specs.Numbers.{text_of}
use Rattle.rule_messages.specs.Misfits.{any_between}
use Rattle.told_messages.proofs.told.add_wrong_action.Goals as goal
use Rattle.told_messages.proofs.told.add_wrong_action.Goals.{then-any_between, else-any_between}

pub returns : goal.returns
returns c =
    let a = c.args in
    let last : text_of c.if-any_between.last ≡ cond (any_between 61 61 a.word.now) name_form nothing_comes = elim c.if-any_between.branch [ then-any_between w ↦ grind arith | else-any_between w ↦ grind arith ] in
    adds_then c.add_message-first.ensures
    (adds_then (adds-as (ap (λ (m : List ℕ). filled m 0 0 a.word.now) c.strange_message.ensures) c.add_message-second.ensures)
    (adds_then c.add_message-third.ensures (adds-as (ap (λ (m : List ℕ). filled m 0 0 []) last) c.add_message.ensures)))
