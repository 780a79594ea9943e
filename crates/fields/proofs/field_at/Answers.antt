-- `fields::field_at` meets its contract.
use Rattle.std.proofs.Common.{rules, arith, ◌≡◌, sym, ap, ◌∙◌, ℕ, ◌-◌, ◌+◌, ◌<◌, [], length, get_or}
use Rattle.fields.specs.Fields.{split_by}
use Rattle.fields.proofs.Fielding.{none_between, first_field, next_field, no_field}
use Rattle.fields.proofs.field_at.Goals as goal

pub returns-then-end-bytes : goal.returns-then-end-bytes
returns-then-end-bytes c =
    let a = c.args in
    let e = c.find-end in
    record {
      onward = omega arith;
      within = e.ensures.within;
      field = none_between a.mark a.bytes.now e.result ∙ sym (no_field e.ensures (search rules) (a.number - c.loop-passed.passed) (omega arith)) ∙ c.loop-passed.invariant.1;
    }

pub returns : goal.returns
returns c =
    let e = c.find-to.ensures in
    let z : c.args.number - c.loop-passed.passed ≡ 0 = omega arith in
    record { onward = e.onward; within = e.within; field = sym (first_field e) ∙ rw z at c.loop-passed.invariant.1 }

pub loop-passed-init : goal.loop-passed-init
loop-passed-init c = (omega arith, ap (λ (n : ℕ). get_or (split_by c.args.mark c.args.bytes.now) n []) (omega arith))

pub loop-passed-preserved : goal.loop-passed-preserved
loop-passed-preserved c =
    let e = c.find-end.ensures in
    let inside : c.find-end.result < length c.args.bytes.now = omega (arith, e.within) in
    let n : c.args.number - (c.loop-passed.passed + 1) ≡ c.args.number - c.loop-passed.passed - 1 = omega arith in
    (omega arith, rw n (sym (next_field e inside (c.args.number - c.loop-passed.passed) (omega arith)) ∙ c.loop-passed.invariant.1))
