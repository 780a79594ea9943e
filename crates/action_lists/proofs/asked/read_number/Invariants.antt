-- `action_lists::asked::read_number` meets its contract. The loop's invariant: the value so far and the digits that are left say the number.
use Rattle.std.proofs.Common.{◌≡◌, ◌≤◌, drop}
use Rattle.action_lists.specs.AskedLists.{number_from}
use Rattle.action_lists.proofs.asked.read_number.Given as goal

abbrev pub invariant-loop-byte : goal.invariant-loop-byte
invariant-loop-byte l = (l.value ≤ 254) × (number_from l.value (drop l.byte-index l.word) ≡ number_from 0 l.word)
