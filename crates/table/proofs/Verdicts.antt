-- Demand 3 for tables: accepted tables are equal byte for byte exactly when they give the same verdicts, and no table with an accepted
-- one's verdicts has fewer rows.
-- Assumes nothing.
use mathlib.Core.Path.{◌≡◌, refl, sym, ◌∙◌, ap, subst}
use mathlib.Core.Bool.{Bool, true, false, not}
use mathlib.Core.List.{List, []}
use mathlib.Core.Logic.{◌↔◌}
use Prim.Native.Nat.{ℕ, zero, suc, ◌+◌, ◌*◌, ◌-◌, ◌≤◌, ◌<◌}
use native.Mathlib.Decide.{ℕ_discrete, dec_lt}
use native.Mathlib.Nat.{add-sub_of_le}
use native.Mathlib.Omega.{arith}
use lib.ListN.{length, get_or}
use lib.Seq.{ext_get_or, get_or-drop}
use Rattle.trace.specs.Trace.{trips, Alike}
use Rattle.trace.proofs.Laws.{not-both}
use Rattle.automaton.specs.Machine.{Machine, transition}
use Rattle.automaton.specs.Minimal.{RowsOf}
use Rattle.automaton.proofs.Canonical.{fewest}
use Rattle.automaton.proofs.MinimalRows.{rows-unique}
use Rattle.table.specs.Table.{type_of, actions_of, rows_of, entries_of, row_step, HeaderFits, WellFormed, Canonical, Accepted, verdict_by, SameVerdicts}
use Rattle.table.proofs.Formed.{machine}
use Rattle.table.proofs.SharedRows.{accepted-rows}

-- a type is 1 or 2
data Type12 : ℕ → Type 0 where
  one : Type12 1
  two : Type12 2

type12 : (n : ℕ) → 1 ≤ n → n ≤ 2 → Type12 n
type12 n l h =
    elim (ℕ_discrete n 1) [ yes p ↦ subst Type12 (sym p) one | no q ↦ subst (λ (m : ℕ). Type12 m) (let z : 2 ≡ n = omega arith in z) two ]

-- the empty sequence tells the types apart
same-type : {m n : ℕ} → Type12 m → Type12 n → verdict_by m false ≡ verdict_by n false → m ≡ n
same-type one one e = refl
same-type one two e = not-both e
same-type two one e = not-both (sym e)
same-type two two e = refl

not_inj : (a b : Bool) → not a ≡ not b → a ≡ b
not_inj true true e = refl
not_inj true false e = not-both (sym e)
not_inj false true e = not-both e
not_inj false false e = refl

-- one type, one verdict, one trip
same-trip : {m : ℕ} → Type12 m → (a b : Bool) → verdict_by m a ≡ verdict_by m b → a ≡ b
same-trip one a b e = not_inj a b e
same-trip two a b e = e

module _ (s t : List ℕ) (fs : WellFormed s) (ft : WellFormed t) (acts : actions_of s ≡ actions_of t) where
  types : SameVerdicts (actions_of s) s t → type_of s ≡ type_of t
  types v =
      same-type (type12 (type_of s) fs.header.type-low fs.header.type-high) (type12 (type_of t) ft.header.type-low ft.header.type-high)
      (v.same [] tt)

  -- one verdict, alike first rows
  starts : SameVerdicts (actions_of s) s t → Alike (actions_of s) (row_step s) 0 (transition 255 (actions_of s) (entries_of t)) 0
  starts v =
      record {
        same = λ w p.
            same-trip (type12 (type_of s) fs.header.type-low fs.header.type-high) (trips (row_step s) 0 w) (trips (transition 255 (actions_of s) (entries_of t)) 0 w)
            (v.same w p ∙ rw (← types v, ← acts));
      }

  other : Machine 255 (rows_of t) (actions_of s) (entries_of t)
  other = rw acts (machine t ft)

  pub fewest-rows : Canonical s → SameVerdicts (actions_of s) s t → rows_of s ≤ rows_of t
  fewest-rows cs v = fewest fs.header.actions-low (machine s fs) cs.numbered cs.distinct other ft.header.rows-low (starts v)

-- two numbers of two digits, the upper ones 0
low_digit : (a b c d : ℕ) → a + 256 * b ≡ c + 256 * d → a + 256 * b < 256 → a ≡ c
low_digit a b c d e h = omega arith

high_digit : (a b c d : ℕ) → a + 256 * b ≡ c + 256 * d → a + 256 * b < 256 → b ≡ d
high_digit a b c d e h = omega arith

module _ (s t : List ℕ) (ps : Accepted s) (pt : Accepted t) (acts : actions_of s ≡ actions_of t) (v : SameVerdicts (actions_of s) s t) where
  hs : HeaderFits s
  hs = ps.formed.header

  -- the second table's rows are those of what the first trips on
  other-rows : RowsOf (actions_of s) (λ w. trips (row_step s) 0 w) (rows_of t) (entries_of t)
  other-rows =
      record {
        low = pt.formed.header.rows-low;
        machine = other s t ps.formed pt.formed acts;
        numbered = rw acts pt.canonical.numbered;
        distinct = rw acts pt.canonical.distinct;
        reads = λ w p. sym ((starts s t ps.formed pt.formed acts v).same w p);
      }

  same : (rows_of s ≡ rows_of t) × (entries_of s ≡ entries_of t)
  same = rows-unique hs.actions-low (accepted-rows s ps) other-rows

  same-header : (i : ℕ) → i < 8 → get_or s i 0 ≡ get_or t i 0
  same-header zero h = low_digit _ _ _ (get_or t 1 0) (types s t ps.formed pt.formed acts v) (omega (arith, hs.type-high))
  same-header (suc zero) h = high_digit (get_or s 0 0) _ (get_or t 0 0) _ (types s t ps.formed pt.formed acts v) (omega (arith, hs.type-high))
  same-header (suc (suc zero)) h = low_digit _ _ _ (get_or t 3 0) acts (omega (arith, hs.actions-high))
  same-header (suc (suc (suc zero))) h = high_digit (get_or s 2 0) _ (get_or t 2 0) _ acts (omega (arith, hs.actions-high))
  same-header (suc (suc (suc (suc zero)))) h = low_digit _ _ _ (get_or t 5 0) same.0 (omega (arith, hs.rows-high))
  same-header (suc (suc (suc (suc (suc zero))))) h = high_digit (get_or s 4 0) _ (get_or t 4 0) _ same.0 (omega (arith, hs.rows-high))
  same-header (suc (suc (suc (suc (suc (suc zero)))))) h = low_digit _ _ _ (get_or t 7 0) (hs.offset ∙ sym pt.formed.header.offset) (omega (arith, hs.offset))
  same-header (suc (suc (suc (suc (suc (suc (suc zero))))))) h =
      high_digit (get_or s 6 0) _ (get_or t 6 0) _ (hs.offset ∙ sym pt.formed.header.offset) (omega (arith, hs.offset))
  same-header (suc (suc (suc (suc (suc (suc (suc (suc i)))))))) h = absurd (let z = h in omega arith)

  same_bytes : s ≡ t
  same_bytes = ext_get_or 0 s t (ps.formed.whole ∙ rw (same.0, acts) (sym pt.formed.whole)) byte
    where
      behind : (i : ℕ) → 8 ≤ i → get_or s i 0 ≡ get_or t i 0
      behind i h =
          ap (λ (k : ℕ). get_or s k 0) (sym (add-sub_of_le h)) ∙ sym (get_or-drop 8 s (i - 8) 0)
          ∙ ap (λ (l : List ℕ). get_or l (i - 8) 0) same.1 ∙ get_or-drop 8 t (i - 8) 0
          ∙ ap (λ (k : ℕ). get_or t k 0) (add-sub_of_le h)

      byte : (i : ℕ) → i < length s → get_or s i 0 ≡ get_or t i 0
      byte i h = elim (dec_lt i 8) [ yes p ↦ same-header i p | no q ↦ behind i (omega arith) ]

-- Any two accepted tables with the same number of actions are equal byte for byte exactly when they give the same verdict after every
-- finite sequence of actions, the empty one among them.
pub equal-exactly-when-same-verdicts : (s t : List ℕ) → Accepted s → Accepted t → actions_of s ≡ actions_of t → (s ≡ t) ↔ SameVerdicts (actions_of s) s t
equal-exactly-when-same-verdicts s t ps pt acts = (λ e. subst (λ (u : List ℕ). SameVerdicts (actions_of s) s u) e (record { same = λ w p. refl }), same_bytes s t ps pt acts)

-- Every table that passes 10, with as many actions and an accepted one's verdicts, has at least as many rows.
pub accepted-has-fewest-rows : (s t : List ℕ) → Accepted s → WellFormed t → actions_of s ≡ actions_of t → SameVerdicts (actions_of s) s t → rows_of s ≤ rows_of t
accepted-has-fewest-rows s t ps ft acts v = fewest-rows s t ps.formed ft acts ps.canonical v
