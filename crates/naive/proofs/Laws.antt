-- Laws of marks.
-- Assumes nothing.
use Rattle.std.proofs.Common.{◌≡◌, ℕ, Bool, true, false, List, length, get_or, set, arith}
use native.Mathlib.Decide.{ℕ_discrete, dec_lt}
use lib.Seq.{get_or-set_same, get_or-set_other, set_out}
use Rattle.naive.specs.Marks.{MoreMarked}

-- as many marks as before
pub none_more : {xs : List Bool} → MoreMarked xs xs
none_more = record { kept = λ i h. h }

one_kept : (xs : List Bool) (i j : ℕ) → get_or xs j false ≡ true → get_or (set xs i true) j false ≡ true
one_kept xs i j hj =
    elim (ℕ_discrete j i) [
      | no q ↦ rw (get_or-set_other xs i j true false q) hj
      | yes e ↦
          elim (dec_lt i (length xs)) [
            | yes h ↦ rw e (get_or-set_same xs i true false h)
            | no h ↦ rw (set_out xs i true (omega (arith, h))) hj
          ]
    ]

-- one mark more
pub one_more : {xs ys : List Bool} (i : ℕ) → ys ≡ set xs i true → MoreMarked xs ys
one_more {xs} i e = rw e (record { kept = λ j h. one_kept xs i j h })
