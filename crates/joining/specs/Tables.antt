-- Tables one behind the other in one input, each as long as its header says, and what is asked of each.
-- Assumes nothing.
use Rattle.std.specs.Prelude.{◌≡◌, List, [], ◌∷◌, ℕ, zero, suc, ◌≤◌, ◌<◌, drop}
use Rattle.table.specs.Table.{type_of, actions_of, table_length, front_table, WellFormed, Canonical, Accepted}

-- What stands behind the first i tables, and table i at its front. An input that ends too soon leaves it shorter than its header says.
abbrev pub rest_at : List ℕ → ℕ → List ℕ
rest_at input zero = input
rest_at input (suc i) = drop (table_length (rest_at input i)) (rest_at input i)

abbrev pub table_at : List ℕ → ℕ → List ℕ
table_at input i = front_table (rest_at input i)

-- f 0, f 1, .. , n of them
abbrev pub listed : {X : Type 0} → ℕ → (ℕ → X) → List X
listed zero f = []
listed (suc n) f = f 0 ∷ listed n (λ i. f (suc i))

abbrev pub tables_in : ℕ → List ℕ → List (List ℕ)
tables_in count input = listed count (table_at input)

-- A table that can be joined: accepted and enforced.
pub record Fit (table : List ℕ) : Type 0 where
  pub accepted : Accepted table
  pub enforced : type_of table ≡ 1

-- One that cannot, with the number of its refusal: 10 before 11 before 34.
pub data Unfit (table : List ℕ) : ℕ → Type 0 where
  malformed : (WellFormed table → ⊥) → Unfit table 10
  not-canonical : WellFormed table → (Canonical table → ⊥) → Unfit table 11
  watched : Accepted table → type_of table ≡ 2 → Unfit table 34

-- Every table before n is fit.
abbrev pub FitBefore : List ℕ → ℕ → Type 0
FitBefore input n = (i : ℕ) → i < n → Fit (table_at input i)

-- Every table has so many actions.
abbrev pub AllOver : (actions count : ℕ) → List ℕ → Type 0
AllOver actions count input = (i : ℕ) → i < count → actions_of (table_at input i) ≡ actions

-- 2 to 8 tables.
pub record CountFits (count : ℕ) : Type 0 where
  pub low : 2 ≤ count
  pub high : count ≤ 8
