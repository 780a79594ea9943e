-- A sheet whose nodes stand in the work area is compiled, and what is found by its rows is what explaining gives.
-- Assumes nothing.
use mathlib.Core.Path.{◌≡◌, refl, sym, subst}
use mathlib.Core.List.{List}
use Prim.Native.Nat.{ℕ, ◌≤◌}
use native.Mathlib.Omega.{arith}
use lib.ListN.{length}
use Rattle.trace.specs.declared.Mode.{Mode}
use Rattle.trace.specs.declared.Mode.TheVariants.{Enforced, Watched}
use Rattle.limits.specs.Lengths.{work_length}
use Rattle.limits.specs.declared.Limits.{Limits}
use Rattle.table.specs.Answer.{mode_number}
use Rattle.syntax.specs.declared.Sheet.{Sheet}
use Rattle.compiler.specs.Compiles.{builds}
use Rattle.compiler.specs.Building.{SheetStands}
use Rattle.compiler.proofs.Passed.{passed}
use Rattle.explaining.specs.Explains.{Explanation, refused, CompiledSheet, Explains, watched, finds}
use Rattle.explaining.specs.Reading.{FindsBy, Standing}

module _ {bytes : List ℕ} {limits : Limits} {mode : Mode} {sheet : Sheet} {rows : ℕ} {work : List ℕ}
    (s : SheetStands bytes limits mode sheet rows work) where
  compiled-sheet : CompiledSheet bytes limits mode sheet
  compiled-sheet =
      record { types = s.types; judged = s.judged; rows = s.nodes.last.rows; table = _; builds = builds s.nodes.tables s.nodes.built s.nodes.last }

  pub standing : work_length ≤ length work → Standing mode sheet work
  standing room =
      record { types = s.types; right = passed bytes s.judged; limits = limits; rows = rows; nodes = s.nodes; room = room }

  pub explained : (list : List ℕ) (answer : Explanation) (written : List ℕ) → FindsBy mode sheet list answer written → Explains bytes list limits answer written
  explained list answer written = by mode compiled-sheet
    where
      by : (m : Mode) → CompiledSheet bytes limits m sheet → FindsBy m sheet list answer written → Explains bytes list limits answer written
      by Watched c f =
          subst (λ (x : Explanation). Explains bytes list limits x written) (sym f.0)
          (subst (Explains bytes list limits (refused 34 0)) (sym f.1) (watched sheet c))
      by Enforced c f = finds sheet c answer written f

-- a mode by its number
pub watched-mode : (m : Mode) → mode_number m ≡ 2 → m ≡ Watched
watched-mode Watched e = refl
watched-mode Enforced e = absurd (omega arith)

pub enforced-mode : (m : Mode) → (mode_number m ≡ 2 → ⊥) → m ≡ Enforced
enforced-mode Watched n = absurd (n refl)
enforced-mode Enforced n = refl
