-- `rules::sets::with_row` meets its contract: a one shifted by a row below 64 is the row's power, whole.
use mathlib.Core.Path.{◌≡◌, ◌∙◌, ap}
use Prim.Native.Nat.{ℕ, ◌*◌, ◌%◌, ◌^◌, ◌<◌}
use native.Mathlib.Nat.{one-mul}
use native.Mathlib.Omega.{arith}
use lib.Bits.{bit_or}
use lib.Pow.{shl_exact}
use Rattle.rules.proofs.sets.with_row.Goals as goal

shifted : (row : ℕ) → row < 64 → (1 * 2 ^ row) % 2 ^ 64 ≡ 2 ^ row
shifted row h = shl_exact 1 row 64 (omega arith) (omega arith) ∙ one-mul (2 ^ row)

pub returns : goal.returns
returns c = ap (bit_or c.args.set) (shifted c.args.row c.requires)
