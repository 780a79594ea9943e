-- `told_messages::told::add_unreadable` meets its contract.
use Rattle.std.proofs.Common.{arith, ◌≡◌, [], List, ℕ, ◌++◌, ap}
use Rattle.messages.specs.Message.{filled}
use Rattle.messages.proofs.Adding.{adds_then, adds-as}
use Rattle.catalogue.specs.Numbers.{text_of}
use Rattle.told_messages.specs.Misfits.{misfit_text}
use Rattle.told_messages.specs.Told.{is_there, place_text}
use Rattle.told_messages.proofs.Telling.{there}
use Rattle.told_messages.proofs.told.add_unreadable.Goals as goal

pub returns : goal.returns
returns c =
    let a = c.args in
    let reason : text_of c.misfit_message-message.result ≡ misfit_text a.word.now a.expected (is_there a.listed.now) = grind (arith, there a.listed.now) in
    adds_then (adds-as (ap (λ (m : List ℕ). place_text a.rule a.line a.number ++ filled m 0 0 a.word.now) reason) c.add_of_word-reason.ensures)
    (adds_then (adds-as (ap (λ (m : List ℕ). filled m 0 0 []) c.expected_message.ensures) c.add_message-next.ensures) c.add_with_word.ensures)
