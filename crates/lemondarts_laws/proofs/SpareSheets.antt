-- Spare nodes change nothing that C reads of the compiler: two sheets with the same used nodes get the same number and the same table, or refusals
-- by one number.
-- Assumes nothing.
use mathlib.Core.Path.{◌≡◌, refl, sym, subst, ◌∙◌}
use mathlib.Core.List.{List}
use Prim.Native.Nat.{ℕ, ◌+◌, ◌*◌}
use lib.ListN.{take}
use Rattle.table.specs.Answer.{Answer}
use Rattle.making.specs.Making.{Areas}
use Rattle.syntax.specs.declared.Sheet.{Sheet}
use Rattle.renumbering.specs.SameUsed.{SameUsed}
use Rattle.sheet_reading.specs.ReadFrom.{ReadFrom}
use Rattle.compiler_laws.specs.Demands.{OneActionList}
use Rattle.compiler_laws.specs.SpareNodes.{SameCall, same-front, both_left}
use Rattle.compiler_laws.proofs.SpareNodes.{call-spare-nodes}
use Rattle.answers.specs.Numbers.{packed_answer}
use Rattle.lemondarts_laws.specs.TextTables.{table_in}
use Rattle.lemondarts.specs.Compiling.{CompileReturns}
use Rattle.lemondarts_laws.specs.SpareSheets.{SameReturned, same-table, same-refusal}
use Rattle.lemondarts_laws.proofs.Answers.{Says, TableNumber}
use Rattle.lemondarts_laws.proofs.Spots.{compile-says}

-- the table that a number tells of
told : {type actions rows returned : ℕ} → TableNumber type actions rows returned → (out : List ℕ) → table_in returned out ≡ take (8 + rows * actions) out
told t out = rw (t.is-rows, t.is-actions)

module _ {out lent : List ℕ} {to : ℕ → ℕ} where
  alike : {a b : Answer} {returned returned' : ℕ} {out' lent' : List ℕ} → SameCall to out lent a out' b lent' → returned ≡ packed_answer a
      → returned' ≡ packed_answer b → Says a returned → Says b returned' → SameReturned out lent returned returned' out' lent'
  alike (same-front type actions rows out' lent' e) p q s t = same-table s.is-done (p ∙ sym q) (told s out' ∙ e ∙ sym (told t lent'))
  alike (both_left number spot) p q s t = same-refusal (s.0 ∙ sym t.0) refl refl

module _ {sheet other : List ℕ} {read read' : Sheet} (from : ReadFrom sheet read) (from' : ReadFrom other read') (one : OneActionList read read')
    (same : SameUsed read read') where
  -- With areas that are long enough.
  pub returns-spare-nodes : {out work values out' work' values' lent area list lent' area' list' : List ℕ} {returned returned' : ℕ}
      → Areas out work values → Areas lent area list → CompileReturns sheet out work values returned out' work' values'
      → CompileReturns other lent area list returned' lent' area' list' → SameReturned out lent returned returned' out' lent'
  returns-spare-nodes a b c d =
      alike (call-spare-nodes from from' one same a b c.compiles d.compiles) c.number d.number
      (subst (Says c.answer) (sym c.number) (compile-says c.compiles)) (subst (Says d.answer) (sym d.number) (compile-says d.compiles))
