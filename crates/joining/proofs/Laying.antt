-- The rows of tables in their slots, and 255 behind them.
-- Assumes nothing.
use mathlib.Core.Path.{◌≡◌, sym, ◌∙◌, ap, subst}
use mathlib.Core.List.{List, ◌++◌}
use Prim.Native.Nat.{ℕ, zero, suc, ◌+◌, ◌-◌, ◌<◌}
use native.Mathlib.Decide.{dec_lt, ℕ_discrete}
use native.Mathlib.Omega.{arith}
use lib.ListN.{length, get_or, take, drop, replicate, get_or-replicate, length-replicate, get_or-append, get_or-eq_default}
use lib.Seq.{get_or-append-add}
use Rattle.trace.specs.declared.Mode.TheVariants.{Enforced}
use Rattle.table.specs.Table.{actions_of, rows_of, table_length, front_table, entries_of}
use Rattle.table.specs.declared.Header.{Header}
use Rattle.table.specs.Answer.{FieldsOf}
use Rattle.table.proofs.Formed.{front-actions, front-rows, front-entries}
use Rattle.rules.specs.Rules.{slot_at}
use Rattle.joining.specs.Tables.{table_at, Fit, AllOver}
use Rattle.joining.specs.Reading.{SlotHolds}

-- past its end a list reads as the mark, and so do marks behind it
pub padded : (l : List ℕ) (n mark k : ℕ) → get_or (l ++ replicate n mark) k mark ≡ get_or l k mark
padded l n mark k =
    elim (dec_lt k (length l)) [
      | yes h ↦ get_or-append l (replicate n mark) mark k h
      | no h ↦
          ap (λ (j : ℕ). get_or (l ++ replicate n mark) j mark) (let e : k ≡ length l + (k - length l) = omega arith in e)
          ∙ get_or-append-add l (replicate n mark) (k - length l) mark
          ∙ marks (k - length l)
          ∙ sym (get_or-eq_default l mark {n = k} (omega arith))
    ]
  where
    marks : (j : ℕ) → get_or (replicate n mark) j mark ≡ mark
    marks j =
        elim (dec_lt j n) [
          | yes h ↦ get_or-replicate n j mark mark h
          | no h ↦ get_or-eq_default (replicate n mark) mark {n = j} (omega (arith, length-replicate {A = ℕ} n mark))
        ]

-- the rows of the table at the front, laid into a slot
module _ (bytes : List ℕ) (f : Fit (front_table bytes)) where
  abbrev header : Header
  header = record { mode = Enforced; actions = actions_of bytes; rows = rows_of bytes }

  fields : FieldsOf (front_table bytes) header
  fields = record { fits = f.accepted.formed.header; type = f.enforced; acting = front-actions bytes; rowed = front-rows bytes }

  pub slot-laid : (end n : ℕ) (slot : List ℕ) → end ≡ table_length bytes → slot ≡ take (end - 8) (drop 8 bytes) ++ replicate n 255 → SlotHolds slot (front_table bytes)
  slot-laid end n slot e s =
      let g : take (end - 8) (drop 8 bytes) ≡ entries_of (front_table bytes) = front-entries bytes header end fields e in
      record { entry = λ k. ap (λ (l : List ℕ). get_or l k 255) s ∙ padded (take (end - 8) (drop 8 bytes)) n 255 k ∙ ap (λ (l : List ℕ). get_or l k 255) g }

-- The tables before i have so many actions, and stand in their slots.
pub record Laying (input : List ℕ) (actions i : ℕ) (work : List ℕ) : Type 0 where
  pub over : AllOver actions i input
  pub slots : (j : ℕ) → j < i → SlotHolds (slot_at work j) (table_at input j)

pub lay-more : {input : List ℕ} {actions i : ℕ} {work : List ℕ} → Laying input actions i work → actions_of (table_at input i) ≡ actions
    → (behind : List ℕ) → ((j : ℕ) → (j ≡ i → ⊥) → slot_at behind j ≡ slot_at work j) → SlotHolds (slot_at behind i) (table_at input i)
    → Laying input actions (i + 1) behind
lay-more {input} {actions} {i} {work} l same behind others own = record { over = over; slots = slots }
  where
    over : AllOver actions (i + 1) input
    over j h =
        elim (ℕ_discrete j i) [
          | yes e ↦ ap (λ (k : ℕ). actions_of (table_at input k)) e ∙ same
          | no e ↦ l.over j (omega arith)
        ]

    slots : (j : ℕ) → j < i + 1 → SlotHolds (slot_at behind j) (table_at input j)
    slots j h =
        elim (ℕ_discrete j i) [
          | yes e ↦ subst (λ (k : ℕ). SlotHolds (slot_at behind k) (table_at input k)) (sym e) own
          | no e ↦ subst (λ (slot : List ℕ). SlotHolds slot (table_at input j)) (sym (others j e)) (l.slots j (omega arith))
        ]
