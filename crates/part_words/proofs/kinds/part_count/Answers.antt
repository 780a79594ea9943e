-- `part_words::kinds::part_count` meets its contract.
use native.Mathlib.Omega.{arith}
use Rattle.part_words.specs.Kinds.{part_count}
use Rattle.part_words.proofs.KindLaws.{few-parts}
use Rattle.part_words.proofs.kinds.part_count.Goals as goal

pub returns : goal.returns
unfolding part_count
returns c = let e = c.byte_at.ensures.0 in (e, omega (arith, few-parts c.args.kind))
