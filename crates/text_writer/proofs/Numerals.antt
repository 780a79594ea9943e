-- How long the text of a number can be.
-- Assumes nothing.
use mathlib.Core.Bool.{Bool, true, false, cond}
use mathlib.Core.List.{List}
use Prim.Native.Nat.{ℕ, ◌≤◌}
use native.Mathlib.Omega.{arith}
use lib.Dec.{ltb}
use lib.ListN.{length}
use Rattle.text_writer.specs.Decimals.{decimal}

-- a choice of two
pub length-either : (b : Bool) (x y : List ℕ) (n : ℕ) → length x ≤ n → length y ≤ n → length (cond b x y) ≤ n
length-either true x y n h g = h
length-either false x y n h g = g

pub length-decimal : (n : ℕ) → length (decimal n) ≤ 3
length-decimal n = length-either (ltb n 10) _ _ 3 (omega arith) (length-either (ltb n 100) _ _ 3 (omega arith) (omega arith))
