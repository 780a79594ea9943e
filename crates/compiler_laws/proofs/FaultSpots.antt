-- A fault's number is 1 to 7, and its spot is a node: below 64.
-- Assumes nothing.
use mathlib.Core.Path.{◌≡◌, subst}
use mathlib.Core.List.{List}
use Prim.Native.Nat.{ℕ, ◌≤◌, ◌<◌}
use native.Mathlib.Omega.{arith}
use Rattle.syntax.specs.Faults.{number_of, spot_of}
use Rattle.syntax.specs.Formed.{Formed}
use Rattle.syntax.specs.declared.Fault.{Fault}
use Rattle.syntax.specs.declared.Fault.TheVariants.{Length, Counts, Areas, UnknownKindAt, WrongFieldAt, WrongTypeAt, BoundAt}
use Rattle.syntax.specs.declared.Sheet.{Sheet}
use Rattle.reached.proofs.NodeSets.{used-below}
use Rattle.typing.specs.Typed.{Judgement, faulty}
use Rattle.renumbering.specs.FirstFault.{FirstFault, unfit, too_long, no-policy}
use Rattle.renumbering.proofs.Judged.{faulty-exactly}
use Rattle.sheet_reading.proofs.ReadFrom.{formed-from}
use Rattle.sheet_judge.specs.Judge.{judge}
use Rattle.sheet_judge.specs.Malformed.{Malformed, wrong-length, wrong-counts, wrong-areas, unknown-kind, wrong-field, MalformedOrRead, malformed, read}
use Rattle.sheet_judge.proofs.Malformed.{malformed-or-read}

pub fault-number : (f : Fault) → (1 ≤ number_of f) × (number_of f ≤ 7)
fault-number Length = (omega arith, omega arith)
fault-number Counts = (omega arith, omega arith)
fault-number Areas = (omega arith, omega arith)
fault-number (UnknownKindAt n) = (omega arith, omega arith)
fault-number (WrongFieldAt n) = (omega arith, omega arith)
fault-number (WrongTypeAt n) = (omega arith, omega arith)
fault-number (BoundAt n) = (omega arith, omega arith)

pub number_small : (f : Fault) → number_of f < 10
number_small f = let h = fault-number f in omega arith

-- of checks 1 to 5, and of 6 and 7
malformed-spot : {bytes : List ℕ} {f : Fault} → Malformed bytes f → spot_of f < 64
malformed-spot (wrong-length l) = omega arith
malformed-spot (wrong-counts l c) = omega arith
malformed-spot (wrong-areas l c a) = omega arith
malformed-spot (unknown-kind w n h before e) = omega arith
malformed-spot (wrong-field w n h before e) = omega arith

mistyped-spot : {sheet : Sheet} {f : Fault} → Formed sheet → FirstFault sheet f → spot_of f < 64
mistyped-spot {sheet} w (unfit types n u before e) = omega (arith, used-below sheet w u)
mistyped-spot {sheet} w (too_long types n u before e) = omega (arith, used-below sheet w u)
mistyped-spot w (no-policy types each e) = omega arith

pub spot-small : (bytes : List ℕ) (f : Fault) → judge bytes ≡ faulty f → spot_of f < 64
spot-small bytes f = by (malformed-or-read bytes)
  where
    by : {j : Judgement} → MalformedOrRead bytes j → j ≡ faulty f → spot_of f < 64
    by (malformed g m) e = let same : g ≡ f = cc in subst (λ (x : Fault). spot_of x < 64) same (malformed-spot m)
    by (read sheet r) e = let w = formed-from bytes r in mistyped-spot w ((faulty-exactly sheet w f).0 e)
