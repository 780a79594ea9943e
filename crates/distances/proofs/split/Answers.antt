-- The goals of `distances::split` that the check leaves.
use Rattle.std.proofs.Common.{◌≡◌, ℕ, ◌<◌, None, length, get_or, refl, sym, ◌∙◌, arith}
use Rattle.distances.specs.Distances.{SameNumber}
use Rattle.automaton.specs.Partition.{first_of}
use Rattle.automaton.proofs.Grown.{none_yet, joins, begins, exceeds}
use Rattle.distances.proofs.Numbers.{none-known, known-begins}
use Rattle.distances.proofs.split.Goals as goal
use Rattle.distances.proofs.split.Goals.{After-from-number, At-loop-s, Start, in-Some, in-None+else-count-limit}

pub loop-s-init : goal.loop-s-init
loop-s-init c = record { few = omega arith; split = none_yet _ _ _; known = none-known _ _ }

-- the number of s
module _ (c : After-from-number) where
  abbrev turn : At-loop-s
  turn = (goal.at.After-from-number c).At-loop-s

  abbrev start : Start
  start = (goal.at.At-loop-s turn).Start

  small : c.from-number.result < 256
  small = omega (arith, c.from-number.ensures, c.type_inv.numbers turn.loop-s.s)

  -- no first member has it
  fresh : get_or turn.loop-s.known c.from-number.result None ≡ None
      → (d : ℕ) → d < turn.loop-s.count → SameNumber start.args.numbers.now (first_of turn.loop-s.firsts d) turn.loop-s.s → ⊥
  fresh e d h p = turn.loop-s.invariant.known.none c.from-number.result small e d h (p ∙ sym c.from-number.ensures)

pub returns-then-count-limit : goal.returns-then-count-limit
returns-then-count-limit c =
    let a = (goal.at.returns-then-count-limit c).After-from-number in
    let v = (turn a).loop-s in
    rw (← c.if-count-limit.true) (exceeds _ v.s v.count v.classes v.firsts v.invariant.split _ (omega arith) (fresh a c.in-None.is))

pub loop-s-preserved : goal.loop-s-preserved
loop-s-preserved c =
    let a = (goal.at.loop-s-preserved c).After-from-number in
    let v = (turn a).loop-s in
    elim c.match-known-number.branch [
      | in-Some w ↦
          let o = v.invariant.known.class a.from-number.result w.in-Some.class w.in-Some.is in
          rw (w.count-is, w.firsts-is, w.known-is, w.class-is)
          (record {
            few = v.invariant.few;
            split = joins _ v.s v.count v.classes v.firsts v.invariant.split w.in-Some.class (omega arith) o.0 (o.1 ∙ a.from-number.ensures);
            known = v.invariant.known;
          })
      | in-None+else-count-limit w ↦
          rw (w.count-is, w.firsts-is, w.known-is, w.class-is)
          (record {
            few = omega arith;
            split = begins _ v.s v.count v.classes v.firsts v.invariant.split (omega arith) (omega arith) refl (fresh a w.in-None.is);
            known = known-begins _ _ _ _ _ _ v.invariant.known (small a) (omega arith) (sym a.from-number.ensures);
          })
    ]

pub returns : goal.returns
returns c =
    let e : c.loop-s.s ≡ length c.args.numbers.now = omega arith in
    (c.loop-s.invariant.few, rw (← e) c.loop-s.invariant.split)
