-- The goals of `refinement::pass` that the check leaves.
use Rattle.std.proofs.Common.{◌≡◌, length, arith}
use native.Mathlib.Nat.{lt_of_lt_of_le}
use Rattle.automaton.proofs.Grown.{none_yet, joins, begins, exceeds}
use Rattle.automaton.proofs.Compared.{signature-equivalence}
use Rattle.automaton.proofs.Rising.{risen-none, found-risen, risen-more, first-risen, class-begun}
use Rattle.refinement.proofs.pass.Goals as goal
use Rattle.refinement.proofs.pass.Goals.{in-Some, in-None+else-count-limit}

pub loop-s-init : goal.loop-s-init
loop-s-init c = record { few = omega arith; split = none_yet _ _ _; risen = risen-none _ _ }

pub find_class-requires : goal.find_class-requires
find_class-requires c =
    let v = c.loop-s in
    record {
      sized = c.requires.refinable.sized;
      room = omega arith;
      inside = λ d h. lt_of_lt_of_le (v.invariant.split.inside d h) v.auto.s-end;
      state = c.loop-s-test.true;
      begun = class-begun v.invariant.split v.invariant.risen c.requires.restricted_growth c.loop-s-test.true;
      risen = first-risen v.invariant.split v.invariant.risen;
    }

pub returns-then-count-limit : goal.returns-then-count-limit
returns-then-count-limit c =
    let v = c.loop-s in
    rw (← c.if-count-limit.true) (exceeds _ v.s v.count v.finer v.firsts v.invariant.split _ (omega arith) c.in-None.ensures)

pub loop-s-preserved : goal.loop-s-preserved
loop-s-preserved c =
    let v = c.loop-s in
    elim c.match-find_class.branch [
      | in-Some w ↦
          let found = w.in-Some.ensures in
          rw (w.count-is, w.firsts-is, w.class-is)
          (record {
            few = v.invariant.few;
            split = joins _ v.s v.count v.finer v.firsts v.invariant.split w.in-Some.class (omega arith) found.within found.here;
            risen = risen-more v.invariant.split v.invariant.risen (found-risen v.invariant.split v.invariant.risen found) (omega arith);
          })
      | in-None+else-count-limit w ↦
          let begun = class-begun v.invariant.split v.invariant.risen c.requires.restricted_growth c.loop-s-test.true in
          rw (w.count-is, w.firsts-is, w.class-is)
          (record {
            few = omega arith;
            split = begins _ v.s v.count v.finer v.firsts v.invariant.split (omega arith) (omega arith) ((signature-equivalence _ _ _).reflexive _) w.in-None.ensures;
            risen = risen-more v.invariant.split v.invariant.risen begun (omega arith);
          })
    ]

pub returns : goal.returns
returns c =
    let e : c.loop-s.s ≡ length c.args.classes.now = omega arith in
    (c.loop-s.invariant.few, rw (← e) c.loop-s.invariant.split)
