-- What is built of a machine, as what the machine gives: the table at the front of the output, or a refusal that leaves it.
-- Assumes nothing.
use mathlib.Core.Path.{◌≡◌, refl, subst}
use mathlib.Core.List.{List, [], ◌++◌}
use Rattle.std.proofs.Common.{Err}
use Prim.Native.Nat.{ℕ, ◌*◌, ◌≤◌}
use native.Mathlib.Nat.{le_trans}
use lib.ListN.{length, take, drop}
use Rattle.trace.specs.Trace.{Step}
use Rattle.limits.specs.declared.Limits.{Limits}
use Rattle.table.specs.Answer.{accepted}
use Rattle.making.specs.Making.{WritesTo}
use Rattle.rules.specs.Rules.{slot_at}
use Rattle.machine_rows.specs.Machines.{RowsFor}
use Rattle.machine_rows.specs.Builds.{SlotWritten, BuildsTo}
use Rattle.machine_rows.specs.declared.OverLimit.{OverLimit}
use Rattle.machine_rows.specs.declared.OverLimit.TheVariants.{Values, Rows}
use Rattle.machine_tables.specs.Slots.{slot_table}
use Rattle.machine_tables.specs.Makes.{MachineMakes, answer_of, many-values, many-states, makes-rows}

module _ {actions : ℕ} {step : Step ℕ} {start : ℕ} {limits : Limits} {slot rows : ℕ} {before behind : List ℕ} (w : SlotWritten actions step start limits slot rows before behind) where
  rows_are : RowsFor actions step start limits.rows rows (take (rows * actions) (slot_at behind slot))
  rows_are = subst (λ (k : ℕ). RowsFor actions step start limits.rows k (take (k * actions) (slot_at behind slot))) w.counted w.built.rows-for

module _ {type actions : ℕ} {step : Step ℕ} {start : ℕ} {limits : Limits} where
  pub nothing-made : (out : List ℕ) (slot : ℕ) (over : OverLimit) (before behind : List ℕ) → BuildsTo actions step start limits slot (Err over) before behind
      → WritesTo (MachineMakes type actions step start limits) (answer_of (Err over)) out out
  nothing-made out slot Values before behind d = record { written = []; gives = many-values d.0; front = refl }
  nothing-made out slot Rows before behind d = record { written = []; gives = many-states d.0 d.1; front = refl }

  pub table-made : {slot rows : ℕ} {before behind : List ℕ} → SlotWritten actions step start limits slot rows before behind → (out left : List ℕ)
      → left ≡ slot_table type actions rows slot behind ++ drop (length (slot_table type actions rows slot behind)) out
      → WritesTo (MachineMakes type actions step start limits) (accepted type actions rows) out left
  table-made {slot} {rows} {behind = behind} w out left e =
      record { written = slot_table type actions rows slot behind; gives = makes-rows w.built.few-values rows _ (rows_are w); front = e }
