-- `base::put_word` meets its contract.
use mathlib.Core.Path.{◌≡◌}
use Prim.Native.Nat.{ℕ, ◌%◌, ◌/◌}
use native.Mathlib.Omega.{arith}
use Rattle.base.proofs.put_word.Goals as goal

low : (n : ℕ) → n % 65536 % 256 ≡ n % 256
low n = omega arith

high : (n : ℕ) → n % 65536 / 256 % 256 ≡ n / 256 % 256
high n = omega arith

pub returns : goal.returns
returns c = rw (low c.args.n, high c.args.n) at c.put_short.ensures
