-- A sheet whose checks 1 to 7 pass is sound.
-- Assumes nothing.
use mathlib.Core.Path.{◌≡◌}
use mathlib.Core.List.{List}
use Prim.Native.Nat.{ℕ}
use Rattle.trace.specs.declared.Mode.{Mode}
use Rattle.typing.specs.Typed.{sound, SoundSheet}
use Rattle.syntax.specs.declared.Sheet.{Sheet}
use Rattle.syntax.specs.declared.NodeType.{NodeType}
use Rattle.typing.proofs.Sound.{judged-sound}
use Rattle.sheet_judge.specs.Judge.{judge}
use Rattle.sheet_judge.proofs.JudgedFrom.{judged-formed}

pub passed : (bytes : List ℕ) {mode : Mode} {sheet : Sheet} {types : List NodeType} → judge bytes ≡ sound mode sheet types → SoundSheet mode sheet types
passed bytes e = let r = judged-formed bytes e in judged-sound _ r.judged r.formed
