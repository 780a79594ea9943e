-- The sheet of an action list and a list of nodes.
-- Assumes nothing.
use Rattle.std.specs.Prelude.{List, ◌++◌, ℕ, ◌-◌, ◌≤◌, ◌<◌, length, get_or, replicate}
use Rattle.syntax.specs.declared.Node.{Node}
use Rattle.syntax.specs.declared.Node.TheVariants.{True}
use Rattle.syntax.specs.declared.Sheet.{Sheet}

-- 1 to 16 actions.
pub record SomeActions (actions : List ℕ) : Type 0 where
  pub some : 1 ≤ length actions
  pub few : length actions ≤ 16

-- Each action's propositions are 16 bits. A lent list's are, by its type.
abbrev pub Narrow : List ℕ → Type 0
Narrow actions = (a : ℕ) → a < length actions → get_or actions a 0 < 65536

-- a list with blanks after it, up to a length
abbrev pub filled_to : {A : Type 0} → ℕ → A → List A → List A
filled_to size blank l = l ++ replicate (size - length l) blank

abbrev pub listed_sheet : List ℕ → List Node → Sheet
listed_sheet actions nodes =
    record {
      actions = length actions;
      propositions = filled_to 16 0 actions;
      count = length nodes;
      nodes = filled_to 64 True nodes;
    }
