-- What explaining gives: one way out a line, in the order of docs/FORMATS.md, "The order of checks".
-- Assumes nothing.
use Rattle.std.specs.Prelude.{◌≡◌, List, [], ◌∷◌, ℕ, suc, take}
use Rattle.trace.specs.Trace.{Sequence}
use Rattle.trace.specs.declared.Mode.{Mode}
use Rattle.trace.specs.declared.Mode.TheVariants.{Enforced, Watched}
use Rattle.limits.specs.declared.Limits.{Limits}
use Rattle.table.specs.Answer.{accepted, mode_number}
use Rattle.table.specs.Answer.{refused as compiler-refused}
use Rattle.typing.specs.Typed.{sound}
use Rattle.syntax.specs.declared.Sheet.{Sheet}
use Rattle.syntax.specs.declared.NodeType.{NodeType}
use Rattle.sheet_judge.specs.Judge.{judge}
use Rattle.compiler.specs.Compiles.{Builds, Compiles}
use Rattle.explaining.specs.Denials.{NotAnAction, NoneDenied, FirstDenied, LowestViolated}

-- The answer: no action of the list is denied; or the place of the first denied one, from 0, and the node; or a refusal.
pub data Explanation : Type 0 where
  no-denial : Explanation
  denied : (place node : ℕ) → Explanation
  refused : (number spot : ℕ) → Explanation

-- The bytes are compiled: they are judged to be this sheet, of this mode, and the sheet gets a table.
pub record CompiledSheet (bytes : List ℕ) (limits : Limits) (mode : Mode) (sheet : Sheet) : Type 0 where
  pub types : List NodeType
  pub judged : judge bytes ≡ sound mode sheet types
  pub rows : ℕ
  pub table : List ℕ
  pub builds : Builds mode sheet types limits (accepted (mode_number mode) sheet.actions rows) table

-- What an enforced sheet gives. The list of numbers is what is written: the place of a denial.
pub data Finds (sheet : Sheet) (list : List ℕ) : Explanation → List ℕ → Type 0 where
  -- 12: a number anywhere in the list, also behind a denial, is no action
  no-action : NotAnAction sheet.actions list → Finds sheet list (refused 12 0) []
  none-denied : Sequence sheet.actions list → NoneDenied sheet list → Finds sheet list no-denial []
  first-denied : Sequence sheet.actions list → (place node : ℕ) → FirstDenied sheet list place → LowestViolated sheet (take (suc place) list) node
      → Finds sheet list (denied place node) (place ∷ [])

-- What explaining any bytes and any list gives. The limits on remembered values and rows are parameters.
pub data Explains (bytes list : List ℕ) (limits : Limits) : Explanation → List ℕ → Type 0 where
  -- 1 to 9: what the compiler refuses
  not-compiled : (number spot : ℕ) → Compiles bytes limits (compiler-refused number spot) []
      → Explains bytes list limits (refused number spot) []
  -- 34: a watched sheet
  watched : (sheet : Sheet) → CompiledSheet bytes limits Watched sheet → Explains bytes list limits (refused 34 0) []
  -- 12, or what is found
  finds : (sheet : Sheet) → CompiledSheet bytes limits Enforced sheet → (answer : Explanation) (written : List ℕ)
      → Finds sheet list answer written → Explains bytes list limits answer written
