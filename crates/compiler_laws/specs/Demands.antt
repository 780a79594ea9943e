-- What the demands say of compiled sheets.
-- Assumes nothing.
use Rattle.std.specs.Prelude.{◌≡◌, Bool, List, ℕ, ◌-◌, ◌<◌}
use Rattle.trace.specs.declared.Mode.{Mode}
use Rattle.trace.specs.Trace.{Sequence}
use Rattle.limits.specs.declared.Limits.{Limits}
use Rattle.policy.specs.Policy.{satisfies}
use Rattle.table.specs.Answer.{accepted}
use Rattle.syntax.specs.Nodes.{propositions_of}
use Rattle.syntax.specs.Meaning.{sheet_policy}
use Rattle.typing.specs.Typed.{sound}
use Rattle.syntax.specs.declared.Sheet.{Sheet}
use Rattle.syntax.specs.declared.NodeType.{NodeType}
use Rattle.sheet_judge.specs.Judge.{judge}
use Rattle.node_rules.specs.Nodes.{Tables, trips_node}
use Rattle.compiler.specs.Limits.{OverValues, OverRows}
use Rattle.compiler.specs.Compiles.{PolicyNode, BuiltBefore, Compiles}

-- The bytes are well formed and well typed (checks 1 to 7 pass), and this is the sheet that is read from them.
pub record ReadAs (bytes : List ℕ) (sheet : Sheet) : Type 0 where
  pub mode : Mode
  pub types : List NodeType
  pub judged : judge bytes ≡ sound mode sheet types

-- Bytes are compiled: they get a table.
pub record GetsTable (bytes : List ℕ) (limits : Limits) : Type 0 where
  pub type : ℕ
  pub actions : ℕ
  pub rows : ℕ
  pub written : List ℕ
  pub compiles : Compiles bytes limits (accepted type actions rows) written

-- They are well formed, their used nodes are well typed, and every used policy node is inside both limits, with its rows.
pub record InsideLimits (bytes : List ℕ) (limits : Limits) : Type 0 where
  pub sheet : Sheet
  pub read : ReadAs bytes sheet
  pub tables : Tables
  pub built : BuiltBefore sheet read.types tables limits sheet.count

-- No used policy node whose earlier ones are inside the limits is over a limit.
pub record NoneOver (sheet : Sheet) (types : List NodeType) (limits : Limits) : Type 0 where
  pub few-values : (tables : Tables) (n : ℕ) → n < sheet.count → BuiltBefore sheet types tables limits n → PolicyNode sheet types n
      → OverValues sheet tables n limits.values → ⊥
  pub few-rows : (tables : Tables) (n : ℕ) → n < sheet.count → BuiltBefore sheet types tables limits n → PolicyNode sheet types n
      → OverRows sheet n limits.rows → ⊥

-- None of the refusals 1 to 9 applies: checks 1 to 7 pass, and no used node is over a limit.
pub record NoRefusal (bytes : List ℕ) (limits : Limits) : Type 0 where
  pub sheet : Sheet
  pub read : ReadAs bytes sheet
  pub none : NoneOver sheet read.types limits

-- Two sheets have one action list.
pub record OneActionList (sheet other : Sheet) : Type 0 where
  pub count : sheet.actions ≡ other.actions
  pub entries : (a : ℕ) → a < sheet.actions → propositions_of sheet a ≡ propositions_of other a

-- The same finite sequences of actions satisfy the one's policy and the other's.
pub record SameSatisfied (sheet other : Sheet) : Type 0 where
  pub same : (w : List ℕ) → Sequence sheet.actions w
      → satisfies (propositions_of sheet) (sheet_policy sheet) w ≡ satisfies (propositions_of other) (sheet_policy other) w

-- Which sequences trip the policy of a sheet.
abbrev pub trips_sheet : Sheet → List ℕ → Bool
trips_sheet sheet w = trips_node sheet (sheet.count - 1) w
