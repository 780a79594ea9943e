-- The verdict of an enforced table, by whether it has tripped.
-- Assumes nothing.
use mathlib.Core.Path.{◌≡◌, sym, ◌∙◌, ap}
use mathlib.Core.Bool.{Bool, true, false, not}
use mathlib.Core.List.{List}
use mathlib.Core.Logic.{◌↔◌}
use Prim.Native.Nat.{ℕ}
use borrow.Author.Tests.{not-true, not-false}
use Rattle.trace.specs.Trace.{trips}
use Rattle.table.specs.Table.{type_of, row_step, verdict_by, verdict}

-- Type 1 is satisfied where the sequence has not tripped.
pub enforced-verdict : (type : ℕ) (tripped : Bool) → type ≡ 1 → verdict_by type tripped ≡ not tripped
enforced-verdict type tripped e = ap (λ (n : ℕ). verdict_by n tripped) e

module _ (table w : List ℕ) (enforced : type_of table ≡ 1) where
  is-not : verdict table w ≡ not (trips (row_step table) 0 w)
  is-not = enforced-verdict (type_of table) (trips (row_step table) 0 w) enforced

  -- An enforced table is satisfied exactly where it has not tripped.
  pub satisfied-exactly : (verdict table w ≡ true) ↔ (trips (row_step table) 0 w ≡ false)
  satisfied-exactly = (λ e. not-true (trips (row_step table) 0 w) (sym is-not ∙ e), λ e. is-not ∙ ap not e)

  -- It denies exactly where it has tripped.
  pub denies-exactly : (verdict table w ≡ false) ↔ (trips (row_step table) 0 w ≡ true)
  denies-exactly = (λ e. not-false (trips (row_step table) 0 w) (sym is-not ∙ e), λ e. is-not ∙ ap not e)
