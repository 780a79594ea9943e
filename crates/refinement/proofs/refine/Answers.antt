-- The goals of `refinement::refine` that the check leaves.
use Rattle.std.proofs.Common.{◌≡◌, ◌≤◌, ℕ, List, ◌++◌, length, drop, arith}
use mathlib.Core.List.{append-nil}
use lib.ListN.{drop_of_length-le}
use Rattle.automaton.specs.Partition.{SameSignature, Partition}
use Rattle.refinement.specs.Refining.{Refining}
use Rattle.refinement.proofs.Refining.{too_many, no-fewer-found, refines, stable}
use Rattle.refinement.proofs.refine.Goals as goal
use Rattle.refinement.proofs.refine.Goals.{At-loop-finer, In_ok-finer, Start}

-- what is copied over a list as long as it
copied : (from to : List ℕ) → length to ≡ length from → from ++ drop (length from) to ≡ from
copied from to e = rw (drop_of_length-le to {i = length from} (omega arith), append-nil from)

-- the classes so far are of all states
module _ (c : At-loop-finer) where
  abbrev start : Start
  start = (goal.at.At-loop-finer c).Start

  still-refining : Refining (length start.args.classes.now) start.args.actions start.args.limit c.loop-finer.count start.args.next.now c.loop-finer.classes
  still-refining = rw c.begin.auto.classes at c.loop-finer.invariant

pub returns-in_err-finer : goal.returns-in_err-finer
returns-in_err-finer c =
    rw c.from_residual-in_err-finer.ensures
    (too_many _ _ _ _ _ _ (still-refining (goal.at.returns-in_err-finer c).At-loop-finer) c.in_err-finer.ensures)

-- a pass found classes
module _ (c : In_ok-finer) where
  abbrev turn : At-loop-finer
  turn = (goal.at.In_ok-finer c).At-loop-finer

  found : (c.in_ok-finer.finer ≤ (start turn).args.limit)
      × Partition (SameSignature (start turn).args.actions (start turn).args.next.now turn.loop-finer.classes) (length turn.loop-finer.classes) c.in_ok-finer.finer c.pass.new.finer c.pass.new.firsts
  found = c.in_ok-finer.ensures

pub returns-then-finer-count : goal.returns-then-finer-count
returns-then-finer-count c =
    let r = still-refining (goal.at.returns-then-finer-count c).At-loop-finer in
    rw (c.copy.ensures, copied c.pass.new.finer c.loop-finer.classes (omega arith))
    (stable _ _ _ _ _ _ r _ _ _ (found (goal.at.returns-then-finer-count c).In_ok-finer) (omega arith) c.if-finer-count.true)

pub loop-finer-smaller : goal.loop-finer-smaller
loop-finer-smaller c =
    let r = still-refining (goal.at.loop-finer-smaller c).At-loop-finer in
    let f = found (goal.at.loop-finer-smaller c).In_ok-finer in
    omega (arith, no-fewer-found _ _ _ _ _ _ r _ _ _ f, f.0)

pub loop-finer-preserved : goal.loop-finer-preserved
loop-finer-preserved c =
    let r = still-refining (goal.at.loop-finer-preserved c).At-loop-finer in
    rw (c.begin.auto.classes, c.copy.ensures, copied c.pass.new.finer c.loop-finer.classes (omega arith))
    (refines _ _ _ _ _ _ r _ _ _ (found (goal.at.loop-finer-preserved c).In_ok-finer) (omega arith))
