-- The sheet of a rule text passes checks 1 to 5: it is formed, its bytes hold it, and they are judged as it is.
-- Assumes nothing.
use mathlib.Core.Path.{◌≡◌}
use mathlib.Core.List.{List}
use Prim.Native.Nat.{ℕ}
use Rattle.typing.specs.Typed.{judge_sheet}
use Rattle.sheet_reading.specs.ReadFrom.{ReadFrom}
use Rattle.sheet_judge.specs.Judge.{judge}
use Rattle.sheet_writer.specs.Bytes.{sheet_bytes, Writable}
use Rattle.sheet_writer.specs.Sheets.{SomeActions, Narrow}
use Rattle.sheet_writer.proofs.Lists.{writable}
use Rattle.sheet_writer.proofs.ReadBack.{held, read-back}
use Rattle.grammar.specs.Words.{Word}
use Rattle.grammar.specs.Grammar.{TextRule, Reads}
use Rattle.grammar.specs.Nodes.{policy_nodes}
use Rattle.grammar.specs.declared.Category.TheVariants.{Text}
use Rattle.parsed_sheets.specs.Sheets.{sheet_for, Small}
use Rattle.parsed_sheets.proofs.FormedNodes.{text-formed}

module _ (actions : List ℕ) (listed : SomeActions actions) (narrow : Narrow actions) {ws : List Word} {rule : TextRule} (reads : Reads Text ws rule)
    (small : Small rule.policy) where
  -- The sheet is as reading gives it.
  pub text-writable : Writable (sheet_for actions rule.policy)
  text-writable = writable actions (policy_nodes 0 rule.policy) narrow (text-formed actions reads small listed)

  -- Its bytes pass checks 1 to 5, and hold it: 6 and 7 judge them as they judge the sheet.
  pub text-read : ReadFrom (sheet_bytes (sheet_for actions rule.policy)) (sheet_for actions rule.policy)
  text-read = held (sheet_for actions rule.policy) text-writable

  pub text-judged : judge (sheet_bytes (sheet_for actions rule.policy)) ≡ judge_sheet (sheet_for actions rule.policy)
  text-judged = read-back (sheet_for actions rule.policy) text-writable
