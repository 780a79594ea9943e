-- The goals of `naive::sequences::number_of` that the check leaves.
use Rattle.std.proofs.Common.{refl, add-one, arith, rules}
use Rattle.naive.specs.Sequences.{number_to}
use Rattle.naive.proofs.sequences.number_of.Goals as goal

pub loop-letter-init : goal.loop-letter-init
unfolding number_to
loop-letter-init c = record { bound = omega arith; number = refl }

pub loop-letter-preserved : goal.loop-letter-preserved
unfolding number_to
loop-letter-preserved c = record { bound = search rules; number = rw (add-one, ← c.loop-letter.invariant.number, ← c.from.ensures) c.step-s.ensures.0 }
