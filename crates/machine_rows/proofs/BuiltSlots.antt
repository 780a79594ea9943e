-- A slot that is built is a part that can be read, and whose moves stay among its rows.
-- Assumes nothing.
use mathlib.Core.Path.{◌≡◌}
use mathlib.Core.List.{List}
use Prim.Native.Nat.{ℕ, ◌*◌, ◌≤◌, ◌<◌}
use native.Mathlib.Nat.{le_trans}
use native.Mathlib.Decide.{dec_lt}
use native.Mathlib.Omega.{arith}
use lib.ListN.{get_or}
use lib.Seq.{get_or-take}
use Rattle.trace.specs.Trace.{Step}
use Rattle.limits.specs.declared.Limits.{Limits}
use Rattle.rules.specs.Rules.{slot_at, Readable}
use Rattle.rules.proofs.Slots.{slot-readable}
use Rattle.machine_rows.specs.Builds.{SlotBuilt}

-- its entries are rows or trips
entries_below : {actions : ℕ} {step : Step ℕ} {start : ℕ} {limits : Limits} {slot : List ℕ} (b : SlotBuilt actions step start limits slot)
    → (k : ℕ) → (get_or slot k 255 ≡ 255 → ⊥) → get_or slot k 255 < b.rows
entries_below {actions} {slot = slot} b k q =
    elim (dec_lt k (b.rows * actions)) [
      | yes h ↦ rw (get_or-take (b.rows * actions) slot k 255 h) at (b.rows-for.machine.closed k h) q
      | no h ↦ absurd (q (b.blank k (omega arith)))
    ]

module _ {actions : ℕ} {step : Step ℕ} {start : ℕ} {limits : Limits} (work : List ℕ) (i : ℕ)
    (b : SlotBuilt actions step start limits (slot_at work i)) (limit : limits.rows ≤ 64) where
  pub built-readable : i < 64 → Readable work i
  built-readable h = slot-readable work i b.rows (le_trans b.rows-for.few limit) (entries_below b) h
