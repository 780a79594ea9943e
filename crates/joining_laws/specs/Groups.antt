-- Tables joined in groups, and the results again: trees of joins.
-- Assumes nothing.
use Rattle.std.specs.Prelude.{List, [], ◌∷◌, ◌++◌, ℕ, ◌≤◌}
use Rattle.limits.specs.declared.Limits.{Limits}
use Rattle.table.specs.Answer.{accepted}
use Rattle.joining.specs.Tables.{tables_in, Fit}
use Rattle.joining.specs.Joins.{Joins}

-- The leaves of some trees, and the tables that these give, one by one: a leaf is an accepted, enforced table and gives itself; a node joins what 2 to 8
-- trees give, under limits of its own.
pub data Forest : List (List ℕ) → List (List ℕ) → Type 0 where
  none : Forest [] []
  leaf : {leaves tables : List (List ℕ)} (table : List ℕ) → Fit table → Forest leaves tables → Forest (table ∷ leaves) (table ∷ tables)
  node : {below leaves tables : List (List ℕ)} (count : ℕ) (input : List ℕ) (limits : Limits) (type actions rows : ℕ) (written : List ℕ) → limits.rows ≤ 64
      → Joins count input limits (accepted type actions rows) written → Forest below (tables_in count input) → Forest leaves tables
      → Forest (below ++ leaves) (written ∷ tables)

-- One tree.
abbrev pub Tree : List (List ℕ) → List ℕ → Type 0
Tree leaves table = Forest leaves (table ∷ [])
