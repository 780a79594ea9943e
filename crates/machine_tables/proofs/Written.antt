-- The rows of a slot as a part of the work area, and the table that is written of them.
-- Assumes nothing.
use mathlib.Core.Path.{◌≡◌, ◌∙◌, ap, subst}
use mathlib.Core.List.{List, ◌++◌}
use Prim.Native.Nat.{ℕ, ◌+◌, ◌*◌, ◌-◌, ◌≤◌}
use native.Mathlib.Nat.{mul-le-mul}
use native.Mathlib.Omega.{arith}
use lib.ListN.{length, drop}
use borrow.Rule.Slice.PartMut.{mid_of, mid_len}
use Rattle.making.specs.Making.{table_bytes}
use Rattle.machine_rows.proofs.Slots.{slot-front}
use Rattle.machine_tables.specs.Slots.{slot_table, RowsWritable}

module _ {actions rows slot : ℕ} {work out : List ℕ} (w : RowsWritable actions rows slot work out) where
  pub size_small : rows * actions ≤ 1024
  size_small = mul-le-mul {n₂ = 64} {m₂ = 16} w.few w.listed

  abbrev part : List ℕ
  part = mid_of (slot * 1024) (slot * 1024 + rows * actions - slot * 1024) work

  pub written : (type : ℕ) (left : List ℕ)
      → left ≡ table_bytes type actions rows (mid_of (slot * 1024) (slot * 1024 + rows * actions - slot * 1024) work)
      ++ drop (8 + length (mid_of (slot * 1024) (slot * 1024 + rows * actions - slot * 1024) work)) out
      → left ≡ slot_table type actions rows slot work ++ drop (length (slot_table type actions rows slot work)) out
  written type left e =
      subst (λ (l : List ℕ). left ≡ table_bytes type actions rows l ++ drop (length (table_bytes type actions rows l)) out) (slot-front slot (rows * actions) work size_small)
      (e ∙ ap (λ (k : ℕ). table_bytes type actions rows part ++ drop k out) (let z : 8 + length part ≡ length (table_bytes type actions rows part) = omega arith in z))
