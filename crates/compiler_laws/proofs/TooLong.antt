-- A sheet over 65,535 bytes is refused with 1: no total says its length.
-- Assumes nothing.
use mathlib.Core.Path.{◌≡◌}
use mathlib.Core.List.{List}
use Prim.Native.Nat.{ℕ, ◌<◌}
use native.Mathlib.Omega.{arith}
use lib.ListN.{length, get_or}
use Rattle.limits.specs.declared.Limits.{Limits}
use borrow.Author.Tests.{le-leb, ne_eqb}
use Rattle.table.specs.Answer.{Answer, refused}
use Rattle.typing.specs.Typed.{faulty}
use Rattle.syntax.specs.declared.Fault.TheVariants.{Length}
use Rattle.sheet_layout.specs.Layout.{total}
use Rattle.sheet_judge.specs.Judge.{judge}
use Rattle.compiler.specs.Compiles.{Compiles, faulted, passes}

module _ (bytes : List ℕ) (small : (i : ℕ) → get_or bytes i 0 < 256) (long : 65535 < length bytes) where
  judged-long : judge bytes ≡ faulty Length
  judged-long =
      rw (le-leb 10 (length bytes) (omega arith), ne_eqb (total bytes) (length bytes) (λ e. omega (arith, small 8, small 9)))

  pub refused-long : {limits : Limits} {answer : Answer} {written : List ℕ} → Compiles bytes limits answer written → answer ≡ refused 1 0
  refused-long (faulted f e) =
      let l = judged-long in
      let same : f ≡ Length = cc in
      rw same
  refused-long (passes mode sheet types e answer written b) =
      let l = judged-long in
      let z : ◌≡◌ {A = ℕ} 0 1 = cc in
      absurd (omega arith)
