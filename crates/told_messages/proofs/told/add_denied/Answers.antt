-- `told_messages::told::add_denied` meets its contract.
use mathlib.Core.Path.{ap}
use mathlib.Core.List.{[]}
use Prim.Native.Nat.{ℕ}
use Rattle.messages.specs.Message.{filled}
use Rattle.messages.proofs.Adding.{adds_then, adds-as}
use Rattle.catalogue.specs.Catalogue.{denied_word}
use Rattle.told_messages.proofs.told.add_denied.Goals as goal

pub returns : goal.returns
returns c =
    let a = c.args in
    adds_then c.add_message-first.ensures
    (adds_then c.add_message-second.ensures
    (adds_then c.add_with_word-third.ensures
    (adds-as (ap (λ (k : ℕ). filled denied_word k a.place []) c.following.ensures) c.add_message.ensures)))
