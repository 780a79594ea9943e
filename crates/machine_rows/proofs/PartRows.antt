-- Rows as a part: their moves stay among them, also for numbers that are no action's.
-- Assumes nothing.
use mathlib.Core.Path.{◌≡◌}
use mathlib.Core.List.{List}
use Prim.Native.Nat.{ℕ, ◌+◌, ◌*◌, ◌≤◌, ◌<◌}
use native.Mathlib.Decide.{ℕ_discrete, dec_lt}
use native.Mathlib.Omega.{arith}
use lib.ListN.{get_or, get_or-eq_default}
use Rattle.automaton.specs.Machine.{transition, entry_move, Machine}
use Rattle.automaton.proofs.Entries.{mark-trips, other_goes}
use Rattle.policy.specs.Closed.{Below, Closed}

module _ {rows actions : ℕ} {entries : List ℕ} (mc : Machine 255 rows actions entries) where
  -- an entry that is no trip stands inside the list, and is a row
  pub entry-below : (k : ℕ) → (get_or entries k 255 ≡ 255 → ⊥) → get_or entries k 255 < rows
  entry-below k q = elim (dec_lt k (rows * actions)) [ yes h ↦ mc.closed k h q | no h ↦ absurd (q (past (omega arith))) ]
    where
      past : rows * actions ≤ k → get_or entries k 255 ≡ 255
      past h = get_or-eq_default entries 255 (omega (arith, mc.sized))

  pub rows_stay : (r a : ℕ) → Below rows (transition 255 actions entries r a)
  rows_stay r a = move (get_or entries (r * actions + a) 255) (entry-below (r * actions + a))
    where
      move : (e : ℕ) → ((e ≡ 255 → ⊥) → e < rows) → Below rows (entry_move 255 e)
      move e h = elim (ℕ_discrete e 255) [ yes p ↦ rw (mark-trips 255 e p) tt | no q ↦ rw (other_goes 255 e q) (h q) ]

  pub rows-closed : 1 ≤ rows → rows ≤ 64 → Closed rows (transition 255 actions entries)
  rows-closed low high = record { pos = low; few = high; stay = λ r a h. rows_stay r a }
