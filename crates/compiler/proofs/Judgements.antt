-- What judging returns, read back as its judgement.
-- Assumes nothing.
use mathlib.Core.Path.{◌≡◌, sym, ◌∙◌, ap}
use mathlib.Core.List.{List}
use Prim.Native.Nat.{ℕ}
use native.Mathlib.Omega.{arith}
use Rattle.std.specs.Prelude.{Ok, Err}
use Rattle.trace.specs.declared.Mode.{Mode}
use Rattle.typing.specs.Typed.{Judgement, faulty, sound}
use Rattle.syntax.specs.declared.Fault.{Fault}
use Rattle.syntax.specs.declared.Sheet.{Sheet}
use Rattle.syntax.specs.declared.NodeType.{NodeType}
use Rattle.sheet_judge.specs.Judge.{judged_sheet}
use Rattle.sheet_judge.specs.declared.JudgedSheet.{JudgedSheet}

pub judged-faulty : (j : Judgement) (r : JudgedSheet) (before : Sheet) (typing : List NodeType) {f : Fault} → r ≡ judged_sheet before typing j
    → r.found ≡ Err f → j ≡ faulty f
judged-faulty (faulty g) r before typing e d = let h = ap (λ (x : JudgedSheet). x.found) e in ap faulty (let k = sym h ∙ d in cc)
judged-faulty (sound mode sheet types) r before typing e d =
    let h = ap (λ (x : JudgedSheet). x.found) e in
    absurd (let k = sym h ∙ d in let z : ◌≡◌ {A = ℕ} 0 1 = cc in omega arith)

pub judged-policy : (j : Judgement) (r : JudgedSheet) (before : Sheet) (typing : List NodeType) {mode : Mode} → r ≡ judged_sheet before typing j
    → r.found ≡ Ok mode → j ≡ sound mode r.sheet r.types
judged-policy (faulty g) r before typing e d =
    let h = ap (λ (x : JudgedSheet). x.found) e in
    absurd (let k = sym h ∙ d in let z : ◌≡◌ {A = ℕ} 0 1 = cc in omega arith)
judged-policy (sound mode sheet types) r before typing e d =
    let h = ap (λ (x : JudgedSheet). x.found) e in
    let s = ap (λ (x : JudgedSheet). x.sheet) e in
    let t = ap (λ (x : JudgedSheet). x.types) e in
    let k = sym h ∙ d in cc
