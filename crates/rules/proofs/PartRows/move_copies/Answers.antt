-- The goals of `rules::PartRows::move_copies` that the check leaves.
use mathlib.Core.Path.{◌≡◌, sym, ◌∙◌, ap}
use Prim.Native.Nat.{ℕ, ◌-◌, ◌<◌}
use native.Mathlib.Omega.{arith}
use lib.Bits.{and_le_r}
use lib.Count.{count_trailing_zeros}
use Rattle.trace.specs.Trace.{Move, trip, go}
use Rattle.rules.specs.Rules.{part_at, move_of}
use Rattle.rules.proofs.Moves.{row_below, begun, gone, tripped, ended}
use Rattle.rules.proofs.Reading.{goes-below, index-fits}
use Rattle.rules.proofs.PartRows.move_copies.Goals as goal
use Rattle.rules.proofs.PartRows.move_copies.Goals.{In-Some, In_default, In-loop-rest}

-- in a turn: a row is left, the lowest is below 64, and the part moves from it
module _ (c : In-loop-rest) where
  left : 0 < c.loop-rest.rest
  left = omega arith

  low : count_trailing_zeros 64 c.loop-rest.rest < 64
  low = row_below c.loop-rest.invariant left

  abbrev move : Move ℕ
  move =
      let a = c.args in
      part_at a.self.actions a.self.work.now a.i (count_trailing_zeros 64 c.loop-rest.rest) a.action

trips : (c : In_default) → move (goal.at.In_default c).In-loop-rest ≡ trip
trips c = let e = c.part_move.ensures in sym e ∙ ap move_of c.in_default.is

goes : (c : In-Some) → move (goal.at.In-Some c).In-loop-rest ≡ go c.in-Some.next
goes c = let e = c.part_move.ensures in sym e ∙ ap move_of c.in-Some.is

pub loop-rest-init : goal.loop-rest-init
loop-rest-init c = begun c.ranges.set.fits

pub overflow_cast-row : goal.overflow_cast-row
overflow_cast-row c = omega (arith, low c)

pub part_move-requires : goal.part_move-requires
part_move-requires c =
    let pre = c.requires in
    let byte : count_trailing_zeros 64 c.loop-rest.rest < 256 = omega (arith, low (goal.at.part_move-requires c).In-loop-rest) in
    (c.args.self.room, pre.0.node, index-fits byte c.args.self.few pre.1)

pub loop-rest-smaller : goal.loop-rest-smaller
loop-rest-smaller c =
    let turn = (goal.at.loop-rest-smaller c).In-loop-rest in
    let rest = turn.loop-rest.rest in
    omega (arith, left turn, and_le_r rest (rest - 1))

pub returns : goal.returns
returns c = let e = ended c.loop-rest.invariant c.loop-rest-test.false in sym e

pub returns-in_default : goal.returns-in_default
returns-in_default c =
    let turn = (goal.at.returns-in_default c).In-loop-rest in
    let e = tripped turn.loop-rest.invariant (left turn) (trips (goal.at.returns-in_default c).In_default) in
    sym e

pub with_row-moved-requires : goal.with_row-moved-requires
with_row-moved-requires c = goes-below c.requires.0 _ _ _ _ (goes (goal.at.with_row-moved-requires c).In-Some)

pub loop-rest-preserved : goal.loop-rest-preserved
loop-rest-preserved c =
    let turn = (goal.at.loop-rest-preserved c).In-loop-rest in
    rw c.with_row-moved.ensures (gone turn.loop-rest.invariant (left turn) (goes (goal.at.loop-rest-preserved c).In-Some))
