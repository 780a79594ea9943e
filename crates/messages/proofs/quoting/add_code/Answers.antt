-- `messages::quoting::add_code` meets its contract.
use mathlib.Core.Path.{ap}
use mathlib.Core.List.{[], ◌∷◌}
use Prim.Native.Nat.{ℕ}
use Rattle.messages.proofs.Adding.{adds_then, adds-as}
use Rattle.messages.proofs.quoting.add_code.Goals as goal

pub returns : goal.returns
returns c =
    adds_then c.put-mark.ensures (adds_then c.put-first.ensures
    (adds_then (adds-as (ap (λ (n : ℕ). n ∷ []) c.hexadecimal.ensures) c.put-second.ensures)
    (adds-as (ap (λ (n : ℕ). n ∷ []) c.hexadecimal-2.ensures) c.put.ensures)))
