-- Bytes outside the header and the two areas are not read: sheets that agree there compile alike, and what a call does with them is the same.
-- Assumes nothing.
use mathlib.Core.Path.{◌≡◌, sym, ◌∙◌}
use mathlib.Core.List.{List}
use Prim.Native.Nat.{ℕ}
use Rattle.limits.specs.declared.Limits.{Limits}
use Rattle.table.specs.Answer.{Answer}
use Rattle.sheet_layout.specs.Layout.{AgreeInAreas}
use Rattle.sheet_judge.specs.Judge.{judge}
use Rattle.sheet_judge.proofs.Unread.{unread}
use Rattle.compiler.specs.Compiles.{Compiles, faulted, passes}
use Rattle.making.specs.Making.{short, makes}
use Rattle.compiler.specs.Calling.{CompilesInto}

same-compiled : (bytes other : List ℕ) → judge bytes ≡ judge other → {limits : Limits} {answer : Answer} {written : List ℕ}
    → Compiles bytes limits answer written → Compiles other limits answer written
same-compiled bytes other e (faulted f j) = faulted f (sym e ∙ j)
same-compiled bytes other e (passes mode sheet types j answer written b) = passes mode sheet types (sym e ∙ j) answer written b

-- Two sheets that agree on the header and the two areas have the same outcome and the same table.
pub compiles-unread : (bytes other : List ℕ) → AgreeInAreas bytes other → {limits : Limits} {answer : Answer} {written : List ℕ}
    → Compiles bytes limits answer written → Compiles other limits answer written
compiles-unread bytes other agree c = same-compiled bytes other (unread bytes other agree) c

-- So does the call: one answer, and the same bytes in every lent area.
pub call-unread : (bytes other : List ℕ) → AgreeInAreas bytes other → {out work values out' work' values' : List ℕ} {answer : Answer}
    → CompilesInto bytes out work values answer out' work' values' → CompilesInto other out work values answer out' work' values'
call-unread bytes other agree (short h) = short h
call-unread bytes other agree (makes a answer written c) = makes a answer written (compiles-unread bytes other agree c)
