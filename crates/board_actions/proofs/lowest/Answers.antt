-- `board_actions::lowest` meets its contract.
use native.Mathlib.Omega.{arith}
use Rattle.base.proofs.Sets.{lowest-in}
use Rattle.board_actions.proofs.lowest.Goals as goal

pub returns : goal.returns
returns c = λ some. lowest-in 8 c.args.set some (omega (arith, c.ranges.set.fits))
