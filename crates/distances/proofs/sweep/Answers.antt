-- The goals of `distances::sweep` that the check leaves.
use Rattle.std.proofs.Common.{◌+◌, ◌*◌, ◌-◌, ◌≤◌, ◌<◌, length, arith}
use Rattle.automaton.proofs.Compared.{entries-within}
use Rattle.distances.proofs.Measured.{put-further, sweep-more}
use Rattle.distances.proofs.sweep.Goals as goal
use Rattle.distances.proofs.sweep.Goals.{In-loop-s, Start}

pub loop-s-init : goal.loop-s-init
loop-s-init c = record { not_below = c.requires.not_below; not_above = λ e t h l. absurd (omega arith) }

-- in a turn
module _ (c : In-loop-s) where
  abbrev start : Start
  start = (goal.at.In-loop-s c).Start

  -- the entries of the state
  within : (c.loop-s.s - 1) * start.args.machine.actions + start.args.machine.actions ≤ length start.args.machine.next.now
  within = entries-within (length start.args.far.now) start.args.machine.actions (length start.args.machine.next.now) (c.loop-s.s - 1) start.requires.next_len (omega arith)

pub loop-s-preserved : goal.loop-s-preserved
loop-s-preserved c =
    let v = c.loop-s in
    let here : v.s - 1 < length v.far = omega arith in
    record {
      not_below = put-further _ _ v.far v.invariant.not_below (v.s - 1) here c.one_further-further.result c.one_further-further.ensures;
      not_above = sweep-more _ _ v.far v.invariant.not_below (v.s - 1) here c.one_further-further.result c.one_further-further.ensures v.settled
          (λ e t l h. v.invariant.not_above e t (omega arith) h);
    }

pub returns : goal.returns
returns c = record { not_below_2 = c.loop-s.invariant.not_below; not_above = λ e s h. c.loop-s.invariant.not_above e s (omega arith) h }
