-- A part that can be read moves to rows below 64, and the entries of a row that a byte names have small indices.
-- Assumes nothing.
use mathlib.Core.Path.{◌≡◌, refl}
use mathlib.Core.Bool.{Bool, true, false}
use mathlib.Core.List.{List}
use Prim.Native.Nat.{ℕ, ◌+◌, ◌*◌, ◌≤◌, ◌<◌}
use native.Mathlib.Omega.{arith}
use lib.Arith.{digits_lt}
use lib.Dec.{eqb}
use lib.ListN.{get_or}
use borrow.Author.Tests.{eqb-false}
use Rattle.trace.specs.Trace.{go}
use Rattle.automaton.specs.Machine.{entry_move}
use Rattle.policy.specs.Closed.{Below}
use Rattle.rules.specs.Rules.{slot_at, part_at, Readable}

-- an entry that is no mark is a row
pub entry-below : (n e : ℕ) → ((e ≡ 255 → ⊥) → e < n) → Below n (entry_move 255 e)
entry-below n e h = by (eqb e 255) refl
  where
    by : (b : Bool) → eqb e 255 ≡ b → Below n (entry_move 255 e)
    by true p = rw p tt
    by false p = rw p (h (eqb-false e 255 p))

module _ {work : List ℕ} {i : ℕ} (readable : Readable work i) (actions row action : ℕ) where
  pub part-below : Below 64 (part_at actions work i row action)
  part-below = entry-below 64 (get_or (slot_at work i) (row * actions + action) 255) (readable.entries (row * actions + action))

  pub goes-below : (next : ℕ) → part_at actions work i row action ≡ go next → next < 64
  goes-below next e = rw e at part-below

-- a byte's row of at most 16 actions
pub index-fits : {row actions action : ℕ} → row < 256 → actions ≤ 16 → action < actions → row * actions + action < 65536
index-fits {row} {actions} {action} h g k = omega (arith, digits_lt h k)
