-- `records::encoding::read_board` meets its contract. The loop's invariant: the places below i are read.
use Rattle.std.proofs.Common.{◌≡◌}
use Rattle.records.specs.Record.{places_to}
use Rattle.records.proofs.encoding.read_board.Given as goal

abbrev pub invariant-loop-i : goal.invariant-loop-i
invariant-loop-i l = l.places ≡ places_to l.bytes l.i
