-- `records::encoding::write_board` meets its contract. The loop's invariant: the words below i are written.
use Rattle.std.proofs.Common.{◌≡◌}
use lib.Seq.{sets}
use Rattle.records.proofs.Words.{bytes_of}
use Rattle.records.proofs.encoding.write_board.Given as goal

abbrev pub invariant-loop-i : goal.invariant-loop-i
invariant-loop-i l = l.bytes ≡ sets l.initial.bytes 0 (bytes_of l.words l.i)
