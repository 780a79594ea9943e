-- The goals of `signatures::find_class` that the check leaves.
use mathlib.Core.Path.{sym, ◌∙◌}
use Prim.Native.Nat.{◌+◌, ◌*◌, ◌≤◌}
use native.Mathlib.Omega.{arith}
use borrow.Author.Count.{below_more}
use lib.ListN.{length}
use Rattle.automaton.specs.Partition.{first_of}
use Rattle.automaton.proofs.Compared.{entries-within}
use Rattle.automaton.proofs.Rising.{none-lower}
use Rattle.signatures.proofs.find_class.Goals as goal
use Rattle.signatures.proofs.find_class.Goals.{Start, In-rows}

-- the entries of the first member of class c
first-within : (c : In-rows) → let z : Start = (goal.at.In-rows c).Start in
    first_of z.args.firsts.now c.rows.c * z.args.machine.actions + z.args.machine.actions ≤ length z.args.machine.next.now
first-within c =
    let z = (goal.at.In-rows c).Start in
    entries-within (length z.args.classes.now) z.args.machine.actions (length z.args.machine.next.now) (first_of z.args.firsts.now c.rows.c) z.requires.sized
    (z.requires.inside c.rows.c c.rows-test.true)

pub rows-init : goal.rows-init
rows-init c = λ d h. none-lower c.requires d (omega arith)

pub loop-a-init : goal.loop-a-init
loop-a-init c = λ k h. absurd (omega arith)

pub target-requires-in-loop-a : goal.target-requires-in-loop-a
target-requires-in-loop-a c = omega (arith, first-within (goal.at.target-requires-in-loop-a c).In-rows)

pub loop-a-preserved : goal.loop-a-preserved
loop-a-preserved c = below_more _ _ c.loop-a.invariant (cc)

pub returns-in-rows : goal.returns-in-rows
returns-in-rows c =
    let r = (goal.at.returns-in-rows c).In-rows in
    record {
      within = r.rows-test.true;
      here =
          record {
            class = sym c.class_of.ensures ∙ c.if-class_of-class.false ∙ r.class_of-class.ensures;
            behind = λ k h. c.loop-a.invariant k (omega arith);
          };
      lowest = r.rows.invariant;
    }
