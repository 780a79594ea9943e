-- A node's field, read from its place in the bytes, and one past their end.
-- Assumes nothing.
use mathlib.Core.Path.{◌≡◌, sym}
use mathlib.Core.List.{List}
use Prim.Native.Nat.{ℕ, ◌+◌, ◌*◌, ◌/◌, ◌<◌}
use native.Mathlib.Omega.{arith}
use lib.ListN.{length, get_or, get_or-eq_default}
use Rattle.sheet_layout.specs.Layout.{nodes_at, field}

module _ (sheet : List ℕ) (node k : ℕ) where
  pub past_end : length sheet / 5 < node → 0 ≡ field sheet node k
  past_end h = sym (get_or-eq_default sheet 0 {n = nodes_at sheet + 5 * node + k} (omega arith))

  pub field-read : (a b r : ℕ) → a ≡ get_or sheet 6 0 → b ≡ get_or sheet 7 0 → r ≡ get_or sheet (a + 256 * b + 5 * node + k) 0 → r ≡ field sheet node k
  field-read a b r p q e = rw (p, q) at e
