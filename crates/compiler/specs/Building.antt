-- What building a sheet's used nodes leaves in the work area: the rows of each policy node at the front of its slot.
-- Assumes nothing.
use Rattle.std.specs.Prelude.{◌≡◌, List, [], ℕ, Result, Ok, Err, ◌*◌, ◌-◌, ◌<◌, take}
use Rattle.trace.specs.declared.Mode.{Mode}
use Rattle.limits.specs.declared.Limits.{Limits}
use Rattle.table.specs.Answer.{refused}
use Rattle.typing.specs.Typed.{sound}
use Rattle.syntax.specs.declared.Sheet.{Sheet}
use Rattle.syntax.specs.declared.NodeType.{NodeType}
use Rattle.sheet_judge.specs.Judge.{judge}
use Rattle.rules.specs.Rules.{slot_at, part_at, Readable}
use Rattle.node_rules.specs.Nodes.{Tables, part_of}
use Rattle.compiler.specs.Limits.{Built}
use Rattle.compiler.specs.Refusals.{number_of_refusal, spot_of_refusal}
use Rattle.compiler.specs.Compiles.{PolicyNode, BuiltBefore, Compiles}
use Rattle.compiler.specs.declared.BuiltSheet.{BuiltSheet}
use Rattle.compiler.specs.declared.Refusal.{Refusal}

-- The slot of node i can be read, and is the machine of its rows.
pub record Stands (sheet : Sheet) (tables : Tables) (work : List ℕ) (i : ℕ) : Type 0 where
  pub readable : Readable work i
  pub machine : part_at sheet.actions work i ≡ part_of sheet tables i

-- Every used policy node is inside both limits, and its rows stand in its slot; the last node has so many.
pub record NodesStand (sheet : Sheet) (types : List NodeType) (limits : Limits) (rows : ℕ) (work : List ℕ) : Type 0 where
  pub tables : Tables
  pub built : BuiltBefore sheet types tables limits sheet.count
  pub stand : (i : ℕ) → i < sheet.count → PolicyNode sheet types i → Stands sheet tables work i
  pub last : Built sheet tables limits (sheet.count - 1)
  pub counted : rows ≡ last.rows
  pub entries : take (rows * sheet.actions) (slot_at work (sheet.count - 1)) ≡ tables (sheet.count - 1)

-- The bytes are judged to be this sheet, of this mode, and its nodes stand.
pub record SheetStands (bytes : List ℕ) (limits : Limits) (mode : Mode) (sheet : Sheet) (rows : ℕ) (work : List ℕ) : Type 0 where
  pub types : List NodeType
  pub judged : judge bytes ≡ sound mode sheet types
  pub nodes : NodesStand sheet types limits rows work

-- What building any bytes answers, and leaves in the work area.
abbrev pub SheetTo : List ℕ → (limits : Limits) → Result BuiltSheet Refusal → List ℕ → Type 0
SheetTo bytes limits (Err r) work = Compiles bytes limits (refused (number_of_refusal r) (spot_of_refusal r)) []
SheetTo bytes limits (Ok built) work = SheetStands bytes limits built.mode built.sheet built.rows work
