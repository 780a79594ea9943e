-- What bytes that are judged sound have in them. `judged-formed` (proofs/JudgedFrom.antt): they have it.
-- Assumes nothing.
use Rattle.syntax.specs.declared.NodeType.{NodeType}
use Rattle.std.specs.Prelude.{◌≡◌, List, ℕ}
use Rattle.trace.specs.declared.Mode.{Mode}
use Rattle.syntax.specs.Formed.{Formed}
use Rattle.syntax.specs.declared.Sheet.{Sheet}
use Rattle.typing.specs.Typed.{sound, judge_sheet}
use Rattle.sheet_reading.specs.ReadFrom.{ReadFrom}

pub record JudgedFrom (bytes : List ℕ) (mode : Mode) (sheet : Sheet) (types : List NodeType) : Type 0 where
  pub read : ReadFrom bytes sheet
  pub formed : Formed sheet
  pub judged : judge_sheet sheet ≡ sound mode sheet types
