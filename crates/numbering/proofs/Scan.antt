-- The scan that checks the stated numbering: `met` rows are met before entry k, each as the numbering states.
-- Assumes nothing.
use mathlib.Core.Path.{◌≡◌, sym, subst}
use mathlib.Core.List.{List}
use Prim.Native.Nat.{ℕ, ◌+◌, ◌*◌, ◌≤◌, ◌<◌}
use native.Mathlib.Decide.{ℕ_discrete, dec_lt}
use native.Mathlib.Omega.{arith}
use lib.ListN.{length, get_or}
use borrow.Author.Count.{below_more}
use borrow.Author.Tests.{lt-leb, le-leb}
use lib.Dec.{leb}
use Rattle.base.specs.Build.{Decides}
use Rattle.automaton.specs.Machine.{FirstMet, Numbered}
use Rattle.automaton.proofs.Numbering.{met-not-mark, met-inside}
use Rattle.table.specs.Table.{RowsFit}

pub record Scanned (rows actions met k : ℕ) (entries : List ℕ) : Type 0 where
  pub some : 0 < met
  pub few : met ≤ rows
  pub below : (j : ℕ) → j < k → (get_or entries j 255 ≡ 255 → ⊥) → get_or entries j 255 < met
  pub found : (s : ℕ) → 0 < s → s < met → FirstMet 255 actions entries s

module _ (rows actions : ℕ) (entries : List ℕ) (fit : RowsFit rows actions entries) where
  pub scan-none : Scanned rows actions 1 0 entries
  scan-none =
      record { some = omega arith; few = fit.rows-low; below = λ j h. absurd (let z = h in omega arith); found = λ s p h. absurd (let y = p in let z = h in omega arith) }

  module _ (met k : ℕ) (sc : Scanned rows actions met k entries) where
    -- the next row is not met yet
    not_yet : met < rows → (fm : FirstMet 255 actions entries met) → k ≤ fm.at
    not_yet h fm = elim (dec_lt fm.at k) [ yes l ↦ absurd (before l) | no l ↦ omega arith ]
      where
        before : fm.at < k → ⊥
        before l = omega (arith, sc.below fm.at l (met-not-mark fit.machine h fm), fm.here)

    -- an entry that is no row, or a row that is met
    pub scan-known : (get_or entries k 255 ≡ 255 → ⊥) → get_or entries k 255 < met → Scanned rows actions met (k + 1) entries
    scan-known n h = record { some = sc.some; few = sc.few; below = below_more _ k sc.below (λ m. h); found = sc.found }

    pub scan-trip : get_or entries k 255 ≡ 255 → Scanned rows actions met (k + 1) entries
    scan-trip e = record { some = sc.some; few = sc.few; below = below_more _ k sc.below (λ m. absurd (m e)); found = sc.found }

    module _ (inside : k < length entries) (row : get_or entries k 255 ≡ 255 → ⊥) where
      -- the entry's row is one of the rows
      row_below : get_or entries k 255 < rows
      row_below = fit.machine.closed k (subst (λ (n : ℕ). k < n) fit.machine.sized inside) row

      -- the next row is met, before it is read
      pub scan-new : get_or entries k 255 ≡ met → k < met * actions → Scanned rows actions (met + 1) (k + 1) entries
      scan-new e h = record { some = omega arith; few = omega (arith, row_below); below = below_more _ k lower (λ m. omega arith); found = found }
        where
          lower : (j : ℕ) → j < k → (get_or entries j 255 ≡ 255 → ⊥) → get_or entries j 255 < met + 1
          lower j p m = let l = sc.below j p m in omega arith

          found : (s : ℕ) → 0 < s → s < met + 1 → FirstMet 255 actions entries s
          found s p q =
              elim (ℕ_discrete s met) [
                | yes r ↦ subst (λ (x : ℕ). FirstMet 255 actions entries x) (sym r) (record { at = k; here = e; early = h; new = sc.below })
                | no r ↦ sc.found s p (omega arith)
              ]

      -- a row is met before the one that should be
      pub scan-skips : met < get_or entries k 255 → Numbered 255 rows actions entries → ⊥
      scan-skips h num = order (num.met met sc.some (omega (arith, row_below)))
        where
          order : FirstMet 255 actions entries met → ⊥
          order fm =
              elim (ℕ_discrete fm.at k) [
                | yes p ↦ (let q : get_or entries k 255 ≡ met = subst (λ (x : ℕ). get_or entries x 255 ≡ met) p fm.here in omega arith)
                | no n ↦ (let l = fm.new k (omega (arith, not_yet (omega (arith, row_below)) fm)) row in omega arith)
              ]

      -- the next row is met when it has been read
      pub scan-late : get_or entries k 255 ≡ met → met * actions ≤ k → Numbered 255 rows actions entries → ⊥
      scan-late e h num = order (num.met met sc.some (omega (arith, row_below)))
        where
          order : FirstMet 255 actions entries met → ⊥
          order fm = omega (arith, fm.early, not_yet (omega (arith, row_below)) fm)

  -- at the end
  module _ (met : ℕ) (sc : Scanned rows actions met (length entries) entries) where
    scan-some : met < rows → Numbered 255 rows actions entries → ⊥
    scan-some below num = order (num.met met sc.some below)
      where
        order : FirstMet 255 actions entries met → ⊥
        order fm = omega (arith, not_yet met (length entries) sc below fm, met-inside fit.machine below fm, fit.machine.sized)

    pub numbered_exactly : Decides (Numbered 255 rows actions entries) (leb rows met)
    numbered_exactly =
        elim (dec_lt met rows) [
          | yes h ↦ rw (lt-leb rows met h) (scan-some h)
          | no h ↦ rw (le-leb rows met (omega arith)) (record { met = λ s p g. sc.found s p (omega (arith, sc.few)) })
        ]
