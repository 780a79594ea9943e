-- `part_words::places::first_under` meets its contract. The loop's invariant: the first node under this one is the one that is looked for.
use mathlib.Core.Path.{◌≡◌}
use Rattle.part_words.specs.Places.{first_part, first_under}
use Rattle.part_words.proofs.places.first_under.Given as goal

abbrev pub invariant-loop-part : goal.invariant-loop-part
invariant-loop-part l = (l.part ≡ first_part l.sheet l.first) × (first_under l.sheet l.first ≡ first_under l.sheet l.node)

abbrev pub decreases-loop-part : goal.decreases-loop-part
decreases-loop-part l = l.first
