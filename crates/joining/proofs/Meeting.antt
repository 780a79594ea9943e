-- The machine that was built is that of the tables: what it gives by its numbers is what the tables give by sequences.
-- Assumes nothing.
use mathlib.Core.Path.{◌≡◌, sym, ◌∙◌, ap, fun_ext}
use mathlib.Core.List.{List}
use Prim.Native.Nat.{ℕ, ◌+◌, ◌*◌, ◌≤◌, ◌<◌}
use native.Mathlib.Omega.{arith}
use lib.ListN.{length, get_or}
use Rattle.trace.specs.Trace.{Sequence, go, Step, run}
use Rattle.limits.specs.Lengths.{work_length}
use Rattle.limits.specs.declared.Limits.{Limits}
use Rattle.automaton.specs.Machine.{entry_move}
use Rattle.policy.specs.Closed.{answer}
use Rattle.policy.specs.Value.{Part}
use Rattle.table.specs.Table.{entries_of, row_step}
use Rattle.table.specs.Answer.{Answer}
use Rattle.table.proofs.Formed.{machine}
use Rattle.rules.specs.Rules.{slot_at, part_at, Readable}
use Rattle.steppers.specs.Tuples.{tuple_step, parts_from, TablesReadable}
use Rattle.explore.specs.Explored.{OverReached}
use Rattle.machine_rows.proofs.PartRows.{entry-below}
use Rattle.machine_rows.proofs.Sequences.{over-values, not-over-values, over-rows, rows_of}
use Rattle.machine_tables.specs.Makes.{MachineMakes, many-values, many-states, makes-rows}
use Rattle.joining.specs.Tables.{table_at, tables_in, FitBefore, AllOver}
use Rattle.joining.specs.Meaning.{some_trips, rows_after, OverTuples}
use Rattle.joining.specs.Joins.{Meets, many-tuples, many-rows, joins}
use Rattle.joining.specs.Reading.{SlotHolds, Acting}
use Rattle.joining.proofs.TupleRuns.{tuple_code, EachOver, tuple-codes, codes-apart, parts-from, each_over}

module _ (count : ℕ) (input work : List ℕ) (actions : ℕ) (fit : FitBefore input count) (over : AllOver actions count input)
    (slots : (i : ℕ) → i < count → SlotHolds (slot_at work i) (table_at input i)) where
  -- the slots can be read
  pub tables-readable : count ≤ 8 → work_length ≤ length work → TablesReadable work count
  tables-readable few room = record { room = room; few = few; each = each }
    where
      each : (i : ℕ) → i < count → Readable work i
      each i h = record { node = omega arith; entries = low }
        where
          low : (k : ℕ) → (get_or (slot_at work i) k 255 ≡ 255 → ⊥) → get_or (slot_at work i) k 255 < 64
          low k =
              let f = (fit i h).accepted.formed in
              rw ((slots i h).entry k) (λ q. let g = entry-below (machine (table_at input i) f) k q in omega (arith, f.header.rows-high))

  pub acting : 0 < count → Acting actions
  acting some =
      let h = (fit 0 some).accepted.formed.header in
      record { low = omega (arith, h.actions-low, over 0 some); high = omega (arith, h.actions-high, over 0 some) }

  abbrev tables : List (List ℕ)
  tables = tables_in count input

  abbrev step : Step ℕ
  step = tuple_step (parts_from actions work 0 count)

  each-fit : EachOver actions tables
  each-fit = each_over actions count (table_at input) (λ i h. record { fit = fit i h; acts = over i h })

  part-is-table : (i : ℕ) → i < count → part_at actions work (0 + i) ≡ row_step (table_at input i)
  part-is-table i h =
      ap (part_at actions work) (let z : 0 + i ≡ i = omega arith in z)
      ∙ fun_ext (λ s. fun_ext (λ a. ap (entry_move 255) ((slots i h).entry (s * actions + a) ∙ ap (λ (n : ℕ). get_or (entries_of (table_at input i)) (s * n + a) 255) (sym (over i h)))))

  codes : (w : List ℕ) → Sequence actions w → run step (go 0) w ≡ answer (some_trips tables w) (tuple_code (rows_after tables w))
  codes w s =
      ap (λ (l : List Part). run (tuple_step l) (go 0) w) (parts-from actions work 0 count (table_at input) part-is-table) ∙ tuple-codes actions tables each-fit w

  few-tuples : (limit : ℕ) → (OverReached actions step 0 limit → ⊥) → OverTuples actions tables limit → ⊥
  few-tuples limit few =
      not-over-values actions (some_trips tables) (rows_after tables) tuple_code step 0 codes (codes-apart actions tables each-fit) limit few

  -- 8, 9 and the rows of the machine are those of the tables
  pub machine_meets : {limits : Limits} {given : Answer} {written : List ℕ} → MachineMakes 1 actions (tuple_step (parts_from actions work 0 count)) 0 limits given written
      → Meets (tables_in count input) actions limits given written
  machine_meets {limits} (many-values o) = many-tuples (over-values actions (some_trips tables) (rows_after tables) tuple_code step 0 codes limits.values o)
  machine_meets {limits} (many-states few o) =
      many-rows (few-tuples limits.values few) (over-rows actions (some_trips tables) (rows_after tables) tuple_code step 0 codes limits.rows o)
  machine_meets {limits} (makes-rows few rows entries r) =
      joins (few-tuples limits.values few) rows entries r.few (rows_of actions (some_trips tables) (rows_after tables) tuple_code step 0 codes limits.rows rows entries r)
