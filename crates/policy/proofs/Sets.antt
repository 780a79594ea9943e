-- Sets of rows: one row more, twice and in any order.
-- Assumes nothing.
use mathlib.Core.Path.{◌≡◌, sym, ◌∙◌}
use mathlib.Core.Bool.{◌||◌, or_comm}
use Prim.Native.Nat.{ℕ, ◌^◌}
use lib.Dec.{eqb}
use lib.Bits.{or_comm as union_comm, or_self}
use Rattle.base.specs.Sets.{bit}
use Rattle.base.proofs.Bits.{bit-power, bit-or, union_assoc}
use Rattle.policy.specs.Value.{insert}

-- q is in the set with r more where it is r or was there
pub bit-insert : (r s q : ℕ) → bit (insert r s) q ≡ (eqb q r || bit s q)
bit-insert r s q = bit-or s (2 ^ r) q ∙ rw (bit-power r q) (or_comm (bit s q) (eqb q r))

-- inserting is idempotent and commutes
pub insert-self : (r s : ℕ) → insert r (insert r s) ≡ insert r s
insert-self r s = sym (union_assoc s (2 ^ r) (2 ^ r)) ∙ rw (or_self (2 ^ r))

pub insert_comm : (q r s : ℕ) → insert q (insert r s) ≡ insert r (insert q s)
insert_comm q r s = sym (union_assoc s (2 ^ r) (2 ^ q)) ∙ rw (union_comm (2 ^ r) (2 ^ q)) (union_assoc s (2 ^ q) (2 ^ r))
