-- Minimising a machine in the stated numbering into a slot.
-- Assumes nothing.
use Rattle.std.specs.Prelude.{◌≡◌, List, ℕ, Option, Some, None, ◌*◌, ◌≤◌, ◌<◌, length, get_or, take}
use Rattle.trace.specs.Trace.{Step}
use Rattle.limits.specs.Limits.{RowLimit}
use Rattle.automaton.specs.Machine.{transition, AlikeStates, Machine, Numbered}
use Rattle.automaton.specs.Partition.{Over}
use Rattle.machine_rows.specs.Machines.{RowsFor}

-- A slot begins with the rows of a machine, and the rest is 255.
pub record RowsIn (actions : ℕ) (step : Step ℕ) (start limit rows : ℕ) (slot : List ℕ) : Type 0 where
  pub rows-for : RowsFor actions step start limit rows (take (rows * actions) slot)
  pub blank : (k : ℕ) → rows * actions ≤ k → get_or slot k 255 ≡ 255

-- What minimising a machine with mark 65,535 answers: how many rows it has, or none, that more than the limit are needed.
abbrev pub MinimisesTo : (states actions : ℕ) → List ℕ → (limit : ℕ) → Option ℕ → List ℕ → List ℕ → Type 0
MinimisesTo states actions next limit (Some rows) before behind = RowsIn actions (transition 65535 actions next) 0 limit rows behind
MinimisesTo states actions next limit None before behind = Over (AlikeStates 65535 actions next) states limit × (behind ≡ before)

-- What minimising is lent: a machine in the stated numbering, a class for each state in both lists, and room for the rows.
pub record Minimisable (actions limit : ℕ) (next classes other slot : List ℕ) : Type 0 where
  pub acting : 0 < actions
  pub some : 0 < length classes
  pub paired : length other ≡ length classes
  pub limited : RowLimit limit
  pub machine : Machine 65535 (length classes) actions next
  pub numbered : Numbered 65535 (length classes) actions next
  pub room : limit * actions ≤ length slot
