-- `naive::sequences::number_of` meets its contract: s is the number of the letters passed.
use Rattle.std.proofs.Common.{◌≡◌, ◌≤◌}
use Rattle.naive.specs.Sequences.{number_to}
use Rattle.naive.proofs.sequences.number_of.Given as goal

abbrev pub invariant-loop-letter : goal.invariant-loop-letter
invariant-loop-letter l = record { bound : l.s ≤ 2048; number : l.s ≡ number_to l.letters l.actions l.letter-index }
