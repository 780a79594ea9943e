-- The quotient by alikeness is the machine's rows.
-- Assumes nothing.
use mathlib.Core.Path.{◌≡◌, sym, ◌∙◌, ap, subst}
use mathlib.Core.List.{List, ◌++◌}
use Prim.Native.Nat.{ℕ, ◌+◌, ◌*◌, ◌-◌, ◌≤◌, ◌<◌}
use native.Mathlib.Decide.{dec_lt}
use native.Mathlib.Nat.{mul-le-mul_right, le_trans}
use native.Mathlib.Omega.{arith}
use lib.ListN.{length, get_or, take, drop, replicate, length-replicate, get_or-replicate, get_or-eq_default}
use lib.Seq.{take_at, get_or-append-add, get_or-drop}
use Rattle.base.proofs.Lists.{length-build}
use Rattle.automaton.specs.Machine.{transition, AlikeStates, Machine, Numbered}
use Rattle.automaton.specs.Partition.{first_of, Partition}
use Rattle.automaton.specs.Quotient.{quotient_entry, quotient_rows, Divisible}
use Rattle.automaton.proofs.Compared.{entries-within}
use Rattle.automaton.proofs.QuotientReads.{quotient-machine, quotient-distinct, quotient-start}
use Rattle.automaton.proofs.QuotientNumbered.{quotient-numbered}
use Rattle.machine_rows.specs.Machines.{RowsFor}
use Rattle.machine_rows.specs.Minimises.{RowsIn}

-- a list that holds one number everywhere, read anywhere with that number for its end
replicate-at : (n x k : ℕ) → get_or (replicate n x) k x ≡ x
replicate-at n x k =
    elim (dec_lt k n) [
      | yes h ↦ get_or-replicate n k x x h
      | no h ↦ get_or-eq_default (replicate n x) x (omega (arith, length-replicate n x))
    ]

module _ (states actions : ℕ) (next : List ℕ) (limit count : ℕ) (classes firsts : List ℕ)
    (acts : 0 < actions) (some : 0 < states) (mc : Machine 65535 states actions next)
    (pa : Partition (AlikeStates 65535 actions next) states count classes firsts) (few : count ≤ limit) where
  -- what the quotient is lent
  pub divisible : (slot : List ℕ) → limit ≤ length firsts → limit * actions ≤ length slot → Divisible actions count next firsts slot
  divisible slot listed room =
      record {
        acting = acts;
        inside = λ c h. entries-within states actions (length next) (first_of firsts c) mc.sized (pa.inside c h);
        listed = le_trans few listed;
        room = le_trans (mul-le-mul_right actions few) room;
      }

  abbrev rows : List ℕ
  rows = quotient_rows actions count next classes firsts

  sized : length rows ≡ count * actions
  sized = length-build (count * actions) (quotient_entry actions next classes firsts)

  quotient-rows : Numbered 65535 states actions next → limit ≤ 64 → length classes ≡ states
      → RowsFor actions (transition 65535 actions next) 0 limit count (quotient_rows actions count next classes firsts)
  quotient-rows nu small each =
      record {
        low = let z = pa.below 0 some in omega arith;
        few = few;
        machine = quotient-machine acts mc pa each (le_trans few small);
        numbered = quotient-numbered acts mc pa each (le_trans few small) nu;
        distinct = quotient-distinct acts mc pa each (le_trans few small);
        reads = quotient-start acts mc pa each (le_trans few small) some;
      }

  -- written to a slot of 255s
  pub divided : Numbered 65535 states actions next → limit ≤ 64 → length classes ≡ states → (size : ℕ) (blank slot : List ℕ)
      → blank ≡ replicate size 255 → slot ≡ quotient_rows actions count next classes firsts ++ drop (count * actions) blank
      → RowsIn actions (transition 65535 actions next) 0 limit count slot
  divided nu small each size blank slot e f = record { rows-for = rows-for; blank = behind }
    where
      rows-for : RowsFor actions (transition 65535 actions next) 0 limit count (take (count * actions) slot)
      rows-for =
          subst (RowsFor actions (transition 65535 actions next) 0 limit count)
          (sym (ap (take (count * actions)) f ∙ take_at rows (drop (count * actions) blank) (count * actions) sized)) (quotient-rows nu small each)

      past : (j : ℕ) → get_or slot (length rows + j) 255 ≡ 255
      past j =
          ap (λ (l : List ℕ). get_or l (length rows + j) 255) f
          ∙ get_or-append-add rows (drop (count * actions) blank) j 255
          ∙ get_or-drop (count * actions) blank j 255
          ∙ ap (λ (l : List ℕ). get_or l (count * actions + j) 255) e
          ∙ replicate-at size 255 (count * actions + j)

      behind : (k : ℕ) → count * actions ≤ k → get_or slot k 255 ≡ 255
      behind k h = let g : length rows + (k - length rows) ≡ k = omega (arith, sized) in rw g at (past (k - length rows))
