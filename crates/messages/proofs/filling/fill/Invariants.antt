-- `messages::filling::fill` meets its contract. The loop's invariant: the first k bytes are added.
use Prim.Native.Nat.{◌≤◌}
use lib.ListN.{length, take}
use Rattle.messages.specs.Message.{filled}
use Rattle.messages.specs.Adding.{Adds}
use Rattle.messages.proofs.filling.fill.Given as goal

abbrev pub invariant-loop-byte : goal.invariant-loop-byte
invariant-loop-byte l = (l.byte-index ≤ length l.message) × Adds l.initial.text l.at (filled (take l.byte-index l.message) l.first l.second l.word) l.text l.end
