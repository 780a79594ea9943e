-- What the call answers, by what reading a whole text gives.
-- Assumes nothing.
use mathlib.Core.List.{List}
use Prim.Native.Nat.{ℕ, ◌≤◌, ◌<◌}
use lib.ListN.{length}
use Rattle.std.proofs.Common.{Result, Ok, Err}
use Rattle.sheet_writer.specs.Writing.{WritesSheet}
use Rattle.sheet_writer.proofs.WrittenBack.{sheet-size, sheet-out}
use Rattle.grammar.specs.declared.Category.{Category}
use Rattle.grammar.proofs.Spots.{sticks-outside, sticks-spot, sticks-expects}
use Rattle.descent.specs.Parsing.{ParsesText, whole, sticks}
use Rattle.parser.specs.Calling.{answer_of, ReadsAs, unreadable, too_many, reads, Tells, of-sheet, of-spot, of-nodes}
use Rattle.parser_state.specs.declared.Progress.TheVariants.{Going, Stuck}
use Rattle.parser.specs.declared.SheetRead.{SheetRead}
use Rattle.parser.specs.declared.TextError.{TextError}
use Rattle.parser.specs.declared.TextError.TheVariants.{Unreadable, TooManyNodes}

-- An answer with what it tells besides.
abbrev pub Answers : (text actions out : List ℕ) → Result SheetRead TextError → List ℕ → Type 0
Answers text actions out r out'' = ReadsAs text actions out (answer_of r) out'' × Tells text r

module _ {text actions out behind : List ℕ} where
  pub answers-stuck : {k : ℕ} {d : Category} → ParsesText text behind (Stuck k d) → Answers text actions out (Err (Unreadable k d)) out
  answers-stuck {k} (sticks h) = (unreadable k (sticks-outside h) (sticks-spot h), of-spot (sticks-expects h))

  pub answers-many : {at words n : ℕ} → ParsesText text behind (Going at words n) → 64 < n → Answers text actions out (Err TooManyNodes) out
  answers-many (whole {rule} rd before w) h = (too_many rule rd h, of-nodes)

  pub answers-sheet : {at words n size : ℕ} {out'' : List ℕ} → ParsesText text behind (Going at words n) → n ≤ 64 → WritesSheet actions n behind out size out''
      → Answers text actions out (Ok (record { length = size; actions = length actions; nodes = n })) out''
  answers-sheet (whole {rule} rd before w) few s = (rw (sheet-size w few s, sheet-out w few s) (reads rule rd few s.narrow), of-sheet)
