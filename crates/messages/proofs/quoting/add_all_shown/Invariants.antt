-- `messages::quoting::add_all_shown` meets its contract. The loop's invariant: the first k bytes are added.
use Prim.Native.Nat.{◌≤◌}
use lib.ListN.{length, take}
use Rattle.messages.specs.Message.{all_shown}
use Rattle.messages.specs.Adding.{Adds}
use Rattle.messages.proofs.quoting.add_all_shown.Given as goal

abbrev pub invariant-loop-byte : goal.invariant-loop-byte
invariant-loop-byte l = (l.byte-index ≤ length l.word) × Adds l.initial.text l.at (all_shown (take l.byte-index l.word)) l.text l.end
