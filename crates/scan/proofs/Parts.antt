-- The entries of the table at the front of some bytes.
-- Assumes nothing.
use mathlib.Core.Path.{◌≡◌, sym, ◌∙◌, ap}
use mathlib.Core.List.{List}
use Prim.Native.Nat.{ℕ, ◌+◌, ◌*◌, ◌<◌}
use native.Mathlib.Omega.{arith}
use lib.Arith.{digits_lt}
use lib.ListN.{length, get_or, take, drop, length-take}
use lib.Seq.{get_or-take, get_or-drop}
use Rattle.base.proofs.Lists.{get_or-within}
use Rattle.table.specs.Table.{rows_of, actions_of, table_length, front_table, WellFormed}
use Rattle.view.specs.Moves.{entry_at}

-- after the header
entry-of-part : (n : ℕ) (l : List ℕ) (k : ℕ) → 8 + k < n → 8 + k < length l → get_or (drop 8 (take n l)) k 255 ≡ get_or l (8 + k) 0
entry-of-part n l k h g = get_or-drop 8 (take n l) k 255 ∙ get_or-take n l (8 + k) 255 h ∙ get_or-within l (8 + k) 255 0 g

-- an entry of a table that passes 10, in the bytes that it stands at the front of
module _ (bytes : List ℕ) (row actions action : ℕ) (formed : WellFormed (front_table bytes)) (acting : actions_of (front_table bytes) ≡ actions)
    (low : row < rows_of (front_table bytes)) (listed : action < actions) where
  abbrev table : List ℕ
  table = front_table bytes

  index-in-table : 8 + (row * actions + action) < length table
  index-in-table =
      let inside = digits_lt {m = rows_of table} {c = actions} low listed in
      let whole : length table ≡ 8 + rows_of table * actions = rw acting at formed.whole in
      omega arith

  pub index-within : 8 + (row * actions + action) < length bytes
  index-within = omega (arith, index-in-table, length-take (table_length bytes) bytes)

  pub entry-within : get_or bytes (8 + row * actions + action) 0 ≡ entry_at table row action
  entry-within =
      let i : 8 + row * actions + action ≡ 8 + (row * actions + action) = omega arith in
      let n = table_length bytes in
      ap (λ (k : ℕ). get_or bytes k 0) i
      ∙ sym (entry-of-part n bytes (row * actions + action) (omega (arith, index-in-table, length-take n bytes)) index-within)
      ∙ ap (λ (a : ℕ). get_or (drop 8 table) (row * a + action) 255) (sym acting)
