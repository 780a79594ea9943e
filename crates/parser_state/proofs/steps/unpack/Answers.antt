-- `parser_state::steps::unpack` meets its contract.
use Prim.Native.Nat.{◌/◌}
use native.Mathlib.Omega.{arith}
use Rattle.parser_state.proofs.Packing.{unpacked, last-mark, six-or-more}
use Rattle.parser_state.proofs.steps.unpack.Goals as goal

pub returns-in-0 : goal.returns-in-0
returns-in-0 c = rw (unpacked c.args.p (omega arith), c.in-0.is)

pub returns-in-1 : goal.returns-in-1
returns-in-1 c = rw (unpacked c.args.p (omega arith), c.in-1.is)

pub returns-in-2 : goal.returns-in-2
returns-in-2 c = rw (unpacked c.args.p (omega arith), c.in-2.is)

pub returns-in-3 : goal.returns-in-3
returns-in-3 c = rw (unpacked c.args.p (omega arith), c.in-3.is)

pub returns-in-4 : goal.returns-in-4
returns-in-4 c = rw (unpacked c.args.p (omega arith), c.in-4.is)

pub returns-in-5 : goal.returns-in-5
returns-in-5 c = rw (unpacked c.args.p (omega arith), c.in-5.is)

pub returns-in_default : goal.returns-in_default
returns-in_default c =
    let six = six-or-more (c.args.p / 281474976710656) (λ e. omega arith) (λ e. omega arith) (λ e. omega arith) (λ e. omega arith) (λ e. omega arith) (λ e. omega arith) in
    rw (unpacked c.args.p (omega arith), last-mark _ _ _ _ six)
