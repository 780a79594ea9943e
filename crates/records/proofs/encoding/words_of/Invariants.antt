-- `records::encoding::words_of` meets its contract. The loop's invariant: the words of the places below i.
use Rattle.std.proofs.Common.{◌≡◌, length}
use Rattle.places.specs.Layout.{place_count}
use Rattle.records.specs.Record.{WordsTo}
use Rattle.records.proofs.encoding.words_of.Given as goal

abbrev pub invariant-loop-i : goal.invariant-loop-i
invariant-loop-i l = (length l.words ≡ place_count) × WordsTo l.places l.i l.words
