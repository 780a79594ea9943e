-- Checks 6 and 7 in plain statements: the first fault of a sheet, and a sheet that has none.
-- `faulty-exactly` and `sound-exactly` (proofs/Judged.antt): a formed sheet is judged faulty, or sound, exactly so.
-- Assumes nothing.
use Rattle.syntax.specs.declared.TypeError.TheVariants.{TooLong, Unfit}
use Rattle.std.specs.Prelude.{Err, Ok, ◌≡◌, ℕ, ◌-◌, ◌<◌}
use Rattle.trace.specs.declared.Mode.{Mode}
use Rattle.policy.specs.declared.Bound.{Bound}
use Rattle.syntax.specs.Nodes.{node_of}
use Rattle.syntax.specs.Types.{type_node}
use Rattle.syntax.specs.declared.Fault.{Fault}
use Rattle.syntax.specs.declared.Fault.TheVariants.{WrongTypeAt, BoundAt}
use Rattle.syntax.specs.declared.NodeType.{NodeType}
use Rattle.syntax.specs.declared.NodeType.TheVariants.{Formula, Policy}
use Rattle.syntax.specs.declared.Sheet.{Sheet}
use Rattle.reached.specs.Parts.{Used}

-- Every used node before n has its type from those of its parts.
abbrev pub TypedBefore : Sheet → (types : ℕ → NodeType) → ℕ → Type 0
TypedBefore sheet types n = (i : ℕ) → i < n → Used sheet i → type_node (node_of sheet i) types ≡ Ok (types i)

-- The first fault. Checks 6 and 7 are made node by node, of used nodes alone; then the last node's 6.
pub data FirstFault (sheet : Sheet) : Fault → Type 0 where
  -- 6: a used node does not fit the types of its parts
  unfit : (types : ℕ → NodeType) (n : ℕ) → Used sheet n → TypedBefore sheet types n → type_node (node_of sheet n) types ≡ Err Unfit
      → FirstFault sheet (WrongTypeAt n)
  -- 7: its bound is too long
  too_long : (types : ℕ → NodeType) (n : ℕ) → Used sheet n → TypedBefore sheet types n → type_node (node_of sheet n) types ≡ Err TooLong
      → FirstFault sheet (BoundAt n)
  -- 6 of the last node: every used node fits, and it is an action formula
  no-policy : (types : ℕ → NodeType) → TypedBefore sheet types sheet.count → types (sheet.count - 1) ≡ Formula
      → FirstFault sheet (WrongTypeAt (sheet.count - 1))

-- No fault: every used node has its type, and the last one is a policy of the mode.
pub record NoFault (mode : Mode) (sheet : Sheet) (types : ℕ → NodeType) : Type 0 where
  pub each : TypedBefore sheet types sheet.count
  pub bound : Bound
  pub last : types (sheet.count - 1) ≡ Policy mode bound
