-- Checks 1 to 7 of a sheet's bytes in their order: 1, 2, 3; then 4, 5 node by node; then 6, 7 node by node for used nodes; the last node's 6.
-- Assumes nothing.
use Rattle.syntax.specs.Faults.{Judged}
use Rattle.std.specs.Prelude.{Result, Ok, Err, ◌≡◌, List, ℕ, ◌-◌, ◌≤◌}
use Rattle.syntax.specs.Nodes.{no_nodes, no_propositions, sheet_of}
use Rattle.reached.specs.Parts.{used_set, PartsEarlier}
use Rattle.typing.specs.Typed.{no_types, type_nodes, typed_nodes, Judgement, faulty, sound, judge_sheet}
use Rattle.syntax.specs.declared.Fault.{Fault}
use Rattle.syntax.specs.declared.NodeType.{NodeType}
use Rattle.syntax.specs.declared.Sheet.{Sheet}
use Rattle.sheet_layout.specs.Layout.{layout_of}
use Rattle.sheet_reading.specs.Reading.{read_nodes, read_actions}
use Rattle.sheet_layout.specs.declared.Layout.{Layout}
use Rattle.sheet_reading.specs.declared.NodesRead.{NodesRead}
use Rattle.sheet_judge.specs.declared.JudgedSheet.{JudgedSheet}

-- 4 and 5 of every node come before 6 and 7 of any: where a node fails 4 or 5, no node is typed.
abbrev pub judge_by : Judged → Sheet → Judgement
judge_by (Ok passed) sheet = judge_sheet sheet
judge_by (Err f) sheet = faulty f

abbrev pub types_by : Judged → Sheet → List NodeType
types_by (Ok passed) sheet = (typed_nodes (type_nodes (used_set sheet) sheet.nodes sheet.count)).types
types_by (Err f) sheet = no_types

-- of the sheet, as far as its nodes were read
abbrev pub judge_read : (actions : ℕ) → List ℕ → (count : ℕ) → NodesRead → Judgement
judge_read actions propositions count read = judge_by read.judged (sheet_of actions propositions count read.nodes)

abbrev pub judge_laid : List ℕ → Result Layout Fault → Judgement
judge_laid bytes (Ok layout) = judge_read layout.actions (read_actions bytes layout.actions) layout.nodes (read_nodes bytes layout.nodes)
judge_laid bytes (Err f) = faulty f

abbrev pub judge : List ℕ → Judgement
judge bytes = judge_laid bytes (layout_of bytes)

-- What the code returns of it: beside a fault, the sheet as far as it was read, and the types that were found before the fault.
abbrev pub judged_sheet : Sheet → List NodeType → Judgement → JudgedSheet
judged_sheet before types (faulty f) = record { found = Err f; sheet = before; types = types }
judged_sheet before types (sound mode sheet all) = record { found = Ok mode; sheet = sheet; types = all }

abbrev pub judged_read : (actions : ℕ) → List ℕ → (count : ℕ) → NodesRead → JudgedSheet
judged_read actions propositions count read =
    let sheet = sheet_of actions propositions count read.nodes in
    judged_sheet sheet (types_by read.judged sheet) (judge_read actions propositions count read)

abbrev pub sheet_in : List ℕ → Result Layout Fault → Sheet
sheet_in bytes (Ok layout) = sheet_of layout.actions (read_actions bytes layout.actions) layout.nodes (read_nodes bytes layout.nodes).nodes
sheet_in bytes (Err f) = sheet_of 0 no_propositions 0 no_nodes

abbrev pub types_in : List ℕ → Result Layout Fault → List NodeType
types_in bytes (Ok layout) =
    types_by (read_nodes bytes layout.nodes).judged
    (sheet_of layout.actions (read_actions bytes layout.actions) layout.nodes (read_nodes bytes layout.nodes).nodes)
types_in bytes (Err f) = no_types

abbrev pub judged : List ℕ → JudgedSheet
judged bytes = judged_sheet (sheet_in bytes (layout_of bytes)) (types_in bytes (layout_of bytes)) (judge bytes)

-- What judging asks of the nodes read: there are 1 to 64, and where all passed 4 and 5, the parts of each stand before it.
pub record ReadWithin (count : ℕ) (read : NodesRead) : Type 0 where
  pub some : 1 ≤ count
  pub few : count ≤ 64
  pub parts : read.judged ≡ Ok tt → PartsEarlier read.nodes (count - 1)
