-- Bytes of a sheet outside the header and the two areas are not read: sheets that agree there are explained alike.
-- Assumes nothing.
use mathlib.Core.Path.{sym, ◌∙◌}
use mathlib.Core.List.{List}
use Prim.Native.Nat.{ℕ}
use Rattle.trace.specs.declared.Mode.{Mode}
use Rattle.limits.specs.declared.Limits.{Limits}
use Rattle.making.specs.Making.{short, makes}
use Rattle.syntax.specs.declared.Sheet.{Sheet}
use Rattle.sheet_layout.specs.Layout.{AgreeInAreas}
use Rattle.sheet_judge.proofs.Unread.{unread}
use Rattle.compiler_laws.proofs.Unread.{compiles-unread}
use Rattle.explaining.specs.Explains.{Explanation, CompiledSheet, Explains, not-compiled, watched, finds}
use Rattle.explaining.specs.Calling.{ExplainsInto}

module _ (bytes other : List ℕ) (agree : AgreeInAreas bytes other) where
  compiled-unread : {limits : Limits} {mode : Mode} {sheet : Sheet} → CompiledSheet bytes limits mode sheet
      → CompiledSheet other limits mode sheet
  compiled-unread c =
      record { types = c.types; judged = sym (unread bytes other agree) ∙ c.judged; rows = c.rows; table = c.table; builds = c.builds }

  -- Two sheets that agree on the header and the two areas get the same answer to every list.
  pub explains-unread : {list : List ℕ} {limits : Limits} {x : Explanation} {written : List ℕ}
      → Explains bytes list limits x written → Explains other list limits x written
  explains-unread (not-compiled number spot c) = not-compiled number spot (compiles-unread bytes other agree c)
  explains-unread (watched sheet c) = watched sheet (compiled-unread c)
  explains-unread (finds sheet c x written f) = finds sheet (compiled-unread c) x written f

  -- So does the call: one answer, and the same bytes in every lent area.
  pub explain-call-unread : {list out work values out' work' values' : List ℕ} {answer : Explanation}
      → ExplainsInto bytes list out work values answer out' work' values' → ExplainsInto other list out work values answer out' work' values'
  explain-call-unread (short h) = short h
  explain-call-unread (makes a answer written e) = makes a answer written (explains-unread e)
