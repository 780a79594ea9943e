-- All copies moved one by one, from the lowest row left.
-- Assumes nothing.
use mathlib.Core.Path.{◌≡◌, refl, sym, ◌∙◌, ap}
use mathlib.Core.Bool.{Bool, true, false, cond}
use Prim.Native.Nat.{ℕ, zero, suc, ◌-◌, ◌^◌, ◌<◌}
use native.Mathlib.Omega.{arith}
use lib.Bits.{bit_or, or_comm, and_le_l}
use lib.Count.{count_trailing_zeros}
use Rattle.base.specs.Sets.{bit}
use Rattle.base.proofs.Bits.{union_assoc}
use Rattle.trace.specs.Trace.{Move, trip, go}
use Rattle.policy.specs.Value.{Part, insert, with_copy, move_below}
use Rattle.policy.proofs.Sets.{insert_comm}
use Rattle.policy.proofs.Copies.{move-empty, move-insert}
use Rattle.rules.proofs.Lowest.{cleared, lowest}

-- the rows moved so far joined to what becomes of the others
abbrev carry : ℕ → Move ℕ → Move ℕ
carry moved trip = trip
carry moved (go set) = go (bit_or moved set)

-- a copy's move joined before or after
carry-join : (s : ℕ) (m n : Move ℕ) → carry s (with_copy m n) ≡ with_copy m (carry s n)
carry-join s trip n = refl
carry-join s (go r) trip = refl
carry-join s (go r) (go t) = ap go (union_assoc s t (2 ^ r))

carry-insert : (r s : ℕ) (m : Move ℕ) → carry s (with_copy (go r) m) ≡ carry (insert r s) m
carry-insert r s trip = refl
carry-insert r s (go t) = ap go (rw (or_comm t (2 ^ r)) (union_assoc s (2 ^ r) t))

-- a copy beginning now is among those moved
begins : (f : Part) (set a n : ℕ) → carry 1 (move_below f set a n) ≡ move_below f set a n
begins f set a zero = refl
begins f set a (suc n) = by (bit set n) (begins f set a n)
  where
    by : (b : Bool) → carry 1 (move_below f set a n) ≡ move_below f set a n
        → carry 1 (cond b (with_copy (f n a) (move_below f set a n)) (move_below f set a n)) ≡ cond b (with_copy (f n a) (move_below f set a n)) (move_below f set a n)
    by true ih = carry-join 1 (f n a) (move_below f set a n) ∙ rw ih
    by false ih = ih

-- The copies of a set of rows below n, moved by an action: the rows moved to so far with a copy beginning now, and the rows left, make up
-- the whole.
pub record Moving (f : Part) (n set a moved rest : ℕ) : Type 0 where
  pub fits : rest < 2 ^ n
  pub fresh : insert 0 moved ≡ moved
  pub whole : move_below f set a n ≡ carry moved (move_below f rest a n)

-- all rows are left
pub begun : {f : Part} {n set a : ℕ} → set < 2 ^ n → Moving f n set a 1 set
begun {f} {n} {set} {a} h = record { fits = h; fresh = refl; whole = sym (begins f set a n) }

module _ {f : Part} {n set a moved rest : ℕ} (m : Moving f n set a moved rest) (h : 0 < rest) where
  -- the lowest row left is one of n
  pub row_below : count_trailing_zeros n rest < n
  row_below = (lowest n rest h m.fits).0

  -- the copies left are its copy and those in higher rows
  split : move_below f set a n ≡ carry moved (with_copy (f (count_trailing_zeros n rest) a) (move_below f (cleared rest) a n))
  split =
      m.whole
      ∙ ap (λ (s : ℕ). carry moved (move_below f s a n)) (lowest n rest h m.fits).1
      ∙ ap (carry moved) (move-insert f a (count_trailing_zeros n rest) (cleared rest) n row_below)

  -- its copy moves to row r
  pub gone : {r : ℕ} → f (count_trailing_zeros n rest) a ≡ go r → Moving f n set a (insert r moved) (cleared rest)
  gone {r} e =
      record {
        fits = omega (arith, m.fits, and_le_l rest (rest - 1));
        fresh = insert_comm 0 r moved ∙ rw m.fresh;
        whole = split ∙ rw e (carry-insert r moved (move_below f (cleared rest) a n));
      }

  -- its copy trips
  pub tripped : f (count_trailing_zeros n rest) a ≡ trip → move_below f set a n ≡ trip
  tripped e = split ∙ rw e

-- no row is left
pub ended : {f : Part} {n set a moved rest : ℕ} → Moving f n set a moved rest → rest ≡ 0 → move_below f set a n ≡ go moved
ended {f} {n} {a = a} m e = m.whole ∙ rw (e, move-empty f a n) (ap go m.fresh)
