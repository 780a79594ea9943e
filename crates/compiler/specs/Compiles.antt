-- What compiling a sheet gives: one way out a line, in the order of docs/FORMATS.md, "The order of checks".
-- Assumes nothing.
use Rattle.std.specs.Prelude.{◌≡◌, List, [], ℕ, ◌-◌, ◌<◌}
use Rattle.trace.specs.declared.Mode.{Mode}
use Rattle.limits.specs.declared.Limits.{Limits}
use Rattle.policy.specs.declared.Bound.{Bound}
use Rattle.table.specs.Answer.{Answer, accepted, refused, mode_number}
use Rattle.making.specs.Making.{table_bytes}
use Rattle.syntax.specs.Types.{type_at}
use Rattle.syntax.specs.Faults.{number_of, spot_of}
use Rattle.reached.specs.Parts.{Used}
use Rattle.typing.specs.Typed.{faulty, sound}
use Rattle.syntax.specs.declared.Sheet.{Sheet}
use Rattle.syntax.specs.declared.NodeType.{NodeType}
use Rattle.syntax.specs.declared.Fault.{Fault}
use Rattle.syntax.specs.declared.NodeType.TheVariants.{Policy}
use Rattle.sheet_judge.specs.Judge.{judge}
use Rattle.node_rules.specs.Nodes.{Tables}
use Rattle.compiler.specs.Limits.{OverValues, OverRows, Built}

-- Node n is used, and a policy.
pub record PolicyNode (sheet : Sheet) (types : List NodeType) (n : ℕ) : Type 0 where
  pub used : Used sheet n
  pub mode : Mode
  pub bound : Bound
  pub is : type_at types n ≡ Policy mode bound

-- Every used policy node before n is inside both limits, with its rows.
abbrev pub BuiltBefore : Sheet → List NodeType → Tables → Limits → ℕ → Type 0
BuiltBefore sheet types tables limits n = (i : ℕ) → i < n → PolicyNode sheet types i → Built sheet tables limits i

-- Node n is the first over a limit, and which.
pub data StopsAt (sheet : Sheet) (tables : Tables) (limits : Limits) (n : ℕ) : ℕ → Type 0 where
  -- 8: more values than the limit occur
  values : OverValues sheet tables n limits.values → StopsAt sheet tables limits n 8
  -- 9: as many as the limit or fewer, and more rows than the limit are needed
  rows : (OverValues sheet tables n limits.values → ⊥) → OverRows sheet n limits.rows → StopsAt sheet tables limits n 9

-- What a sheet that passes checks 1 to 7 gives. The limits on remembered values and rows are parameters. The list is the table's bytes, empty
-- for a refusal.
pub data Builds (mode : Mode) (sheet : Sheet) (types : List NodeType) (limits : Limits) : Answer → List ℕ → Type 0 where
  -- 8 or 9 at node n, a used one: every earlier used policy node is inside both limits, and n is over one
  stops : (tables : Tables) (n number : ℕ) → n < sheet.count → BuiltBefore sheet types tables limits n → PolicyNode sheet types n
      → StopsAt sheet tables limits n number → Builds mode sheet types limits (refused number n) []
  -- a table: every used policy node is inside both limits; the rows are those of the last node
  builds : (tables : Tables) → BuiltBefore sheet types tables limits sheet.count
      → (last : Built sheet tables limits (sheet.count - 1))
      → Builds mode sheet types limits (accepted (mode_number mode) sheet.actions last.rows)
      (table_bytes (mode_number mode) sheet.actions last.rows (tables (sheet.count - 1)))

-- What compiling any bytes gives.
pub data Compiles (bytes : List ℕ) (limits : Limits) : Answer → List ℕ → Type 0 where
  -- 1 to 7: the first fault
  faulted : (f : Fault) → judge bytes ≡ faulty f → Compiles bytes limits (refused (number_of f) (spot_of f)) []
  -- 8, 9 or a table
  passes : (mode : Mode) (sheet : Sheet) (types : List NodeType) → judge bytes ≡ sound mode sheet types → (answer : Answer) (written : List ℕ)
      → Builds mode sheet types limits answer written → Compiles bytes limits answer written
