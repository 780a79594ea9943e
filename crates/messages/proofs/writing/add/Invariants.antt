-- `messages::writing::add` meets its contract. The loop's invariant: the first k bytes are added.
use Prim.Native.Nat.{◌≤◌}
use lib.ListN.{length, take}
use Rattle.messages.specs.Adding.{Adds}
use Rattle.messages.proofs.writing.add.Given as goal

abbrev pub invariant-loop-byte : goal.invariant-loop-byte
invariant-loop-byte l = (l.byte-index ≤ length l.words) × Adds l.initial.text l.at (take l.byte-index l.words) l.text l.end
