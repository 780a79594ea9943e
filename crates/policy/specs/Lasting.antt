-- Neither is tripped at the empty sequence and neither untrips (docs/FORMATS.md, "Policies").
-- Assumes nothing.
use Rattle.std.specs.Prelude.{◌≡◌, true, false, List, [], ◌++◌, ℕ}
use Rattle.policy.specs.Operators.{Property}

-- A co-safety property that the empty sequence lacks: what has it keeps it however the sequence goes on.
pub record Lasting (P : Property) : Type 0 where
  pub empty : P [] ≡ false
  pub stays : (w u : List ℕ) → P w ≡ true → P (w ++ u) ≡ true
