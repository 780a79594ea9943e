-- A node that closes after its parts: where reading goes on, and where it is stuck; and the number of a part.
-- Assumes nothing.
use mathlib.Core.Path.{◌≡◌, sym, subst, ◌∙◌}
use mathlib.Core.List.{List}
use Prim.Native.Nat.{ℕ, ◌+◌, ◌-◌, ◌%◌, ◌≤◌}
use native.Mathlib.Omega.{arith}
use lib.ListN.{length}
use Rattle.sheet_writer.specs.Writing.{WroteOne}
use Rattle.grammar.specs.declared.Category.{Category}
use Rattle.parser_state.specs.Progress.{byte_size, Closes}
use Rattle.parser_state.specs.declared.Progress.{Progress}
use Rattle.parser_state.specs.declared.Progress.TheVariants.{Going, Stuck}

-- The number of a node in a byte.
pub root_is : (n : ℕ) → 1 ≤ n → n ≤ 64 → (n % byte_size + (byte_size - 1)) % byte_size ≡ n - 1
root_is n h g = omega arith

-- A node closes where reading goes on, and nothing where it is stuck.
module _ (bytes before behind : List ℕ) {p r : Progress} where
  pub closes-going : {at words n : ℕ} → p ≡ Going at words n → r ≡ Going at words (n + 1) → WroteOne bytes n before behind → Closes bytes before behind p r
  closes-going e e' w = subst (λ (p : Progress). Closes bytes before behind p r) (sym e) (e', w)

  pub closes-still : {m : ℕ} {d : Category} → p ≡ Stuck m d → r ≡ p → length behind ≡ length before → Closes bytes before behind p r
  closes-still e e' l = subst (λ (p : Progress). Closes bytes before behind p r) (sym e) (e' ∙ e, l)
