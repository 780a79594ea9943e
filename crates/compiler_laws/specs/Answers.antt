-- When compiling gives each refusal, in its place of the order of checks.
-- Assumes nothing.
use Rattle.std.specs.Prelude.{◌≡◌, List, ℕ, ◌<◌}
use Rattle.limits.specs.declared.Limits.{Limits}
use Rattle.syntax.specs.Faults.{number_of}
use Rattle.syntax.specs.declared.Fault.{Fault}
use Rattle.syntax.specs.declared.Sheet.{Sheet}
use Rattle.typing.specs.Typed.{faulty}
use Rattle.renumbering.specs.FirstFault.{FirstFault}
use Rattle.sheet_layout.specs.Layout.{layout_of}
use Rattle.sheet_judge.specs.Judge.{judge, sheet_in}
use Rattle.sheet_reading.specs.ReadFrom.{ReadFrom}
use Rattle.sheet_judge.specs.Malformed.{Malformed}
use Rattle.node_rules.specs.Nodes.{Tables}
use Rattle.compiler.specs.Compiles.{PolicyNode, BuiltBefore, StopsAt}
use Rattle.compiler_laws.specs.Demands.{ReadAs}

-- The sheet that is read from bytes.
abbrev pub sheet_read : List ℕ → Sheet
sheet_read bytes = sheet_in bytes (layout_of bytes)

-- Bytes pass checks 1 to 5: a fault of theirs is one of 6 and 7.
pub record PassesToFive (bytes : List ℕ) : Type 0 where
  pub none : (f : Fault) → judge bytes ≡ faulty f → 5 < number_of f

-- 1 to 7: the first fault of the bytes, or of the sheet that is read from them.
pub data FirstFaultIn (bytes : List ℕ) (f : Fault) : Type 0 where
  malformed : Malformed bytes f → FirstFaultIn bytes f
  mistyped : (sheet : Sheet) → ReadFrom bytes sheet → FirstFault sheet f → FirstFaultIn bytes f

-- 8 and 9: checks 1 to 7 pass, every used policy node before n is inside both limits, and node n, a used one, is over this one.
pub record FirstOver (bytes : List ℕ) (limits : Limits) (n number : ℕ) : Type 0 where
  pub sheet : Sheet
  pub read : ReadAs bytes sheet
  pub tables : Tables
  pub inside : n < sheet.count
  pub before : BuiltBefore sheet read.types tables limits n
  pub policy : PolicyNode sheet read.types n
  pub over : StopsAt sheet tables limits n number
