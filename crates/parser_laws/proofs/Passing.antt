-- The sheet that a text is written as: its bytes in the output pass checks 1 to 7, and mean the policy that the words are read as.
-- Assumes nothing.
use mathlib.Core.Path.{◌≡◌, refl, sym, ap, ◌∙◌}
use mathlib.Core.List.{List}
use Prim.Native.Nat.{ℕ}
use native.Mathlib.Omega.{arith}
use lib.ListN.{take}
use Rattle.trace.specs.declared.Mode.{Mode}
use Rattle.typing.specs.Typed.{faulty, sound, judge_sheet}
use Rattle.syntax.specs.declared.Fault.{Fault}
use Rattle.syntax.specs.declared.Sheet.{Sheet}
use Rattle.syntax.specs.declared.NodeType.{NodeType}
use Rattle.sheet_reading.specs.ReadFrom.{ReadFrom}
use Rattle.sheet_judge.specs.Judge.{judge}
use Rattle.sheet_reading.specs.Reading.{read_nodes, read_actions}
use Rattle.sheet_reading.specs.declared.NodesRead.{NodesRead}
use Rattle.sheet_reading.proofs.ReadFrom.{actions-from, nodes-from}
use Rattle.grammar.specs.Words.{words_of}
use Rattle.grammar.specs.Grammar.{TextRule, Reads}
use Rattle.grammar.specs.declared.Category.TheVariants.{Text}
use Rattle.parsed_sheets.specs.Sheets.{sheet_for, Small}
use Rattle.parsed_sheets.proofs.ListedNodes.{text-propositions}
use Rattle.parsed_sheets.proofs.Meanings.{text-policy}
use Rattle.parsed_sheets.proofs.Writable.{text-read, text-judged}
use Rattle.parsed_sheets.proofs.TextTyped.{text-typed}
use Rattle.parser.specs.Calling.{written, ReadsInto}
use Rattle.parser_laws.specs.Passing.{PassesFive}
use Rattle.parser_laws.proofs.Written.{written_as}

-- Bytes hold one sheet at most.
module _ (bytes : List ℕ) {a b : Sheet} (r : ReadFrom bytes a) (q : ReadFrom bytes b) where
  same-actions : a.actions ≡ b.actions
  same-actions = r.actions ∙ sym q.actions

  same_count : a.count ≡ b.count
  same_count = r.count ∙ sym q.count

  same-propositions : a.propositions ≡ b.propositions
  same-propositions = sym (actions-from bytes r) ∙ ap (read_actions bytes) same-actions ∙ actions-from bytes q

  same_nodes : a.nodes ≡ b.nodes
  same_nodes =
      ap (λ (x : NodesRead). x.nodes) (sym (nodes-from bytes r)) ∙ ap (λ (n : ℕ). (read_nodes bytes n).nodes) same_count
      ∙ ap (λ (x : NodesRead). x.nodes) (nodes-from bytes q)

  pub one-sheet : a ≡ b
  one-sheet = λ i. record { actions = same-actions i; propositions = same-propositions i; count = same_count i; nodes = same_nodes i }

module _ {text actions out out'' : List ℕ} {bytes count nodes : ℕ} (call : ReadsInto text actions out (written bytes count nodes) out'') {rule : TextRule}
    (read : Reads Text (words_of text) rule) where
  abbrev sheet : Sheet
  sheet = sheet_for actions rule.policy

  small : Small rule.policy
  small = (written_as call read).few

  reads : ReadFrom (take bytes out'') sheet
  reads = let w = written_as call read in rw w.front (text-read actions w.some-actions w.narrow read small)

  judged : judge (take bytes out'') ≡ judge_sheet sheet
  judged = let w = written_as call read in rw w.front (text-judged actions w.some-actions w.narrow read small)

  -- The bytes pass checks 1 to 5, and mean the policy that the words are read as, over the lent actions.
  pub text-passes : PassesFive actions rule.policy (take bytes out'') sheet
  text-passes =
      record {
        read = reads;
        only = λ other r. one-sheet (take bytes out'') r reads;
        judged = judged;
        means = text-policy actions rule.policy;
        count = refl;
        propositions = text-propositions actions rule.policy;
      }

  -- They pass checks 6 and 7 too: they are judged sound, with the rule's mode.
  pub text-sound : (types : List NodeType) × (judge (take bytes out'') ≡ sound rule.mode sheet types)
  text-sound = let t = text-typed actions read small in (t.0, judged ∙ t.1)

  -- So no fault ever comes: none of 1 to 7.
  pub text-never-faulty : (f : Fault) → judge (take bytes out'') ≡ faulty f → ⊥
  text-never-faulty f e = let d = text-sound.1 in let z : ◌≡◌ {A = ℕ} 0 1 = cc in omega arith

  -- And they are read as no other sheet, and of no other mode.
  pub text-sound-as : {mode : Mode} {other : Sheet} {types : List NodeType} → judge (take bytes out'') ≡ sound mode other types
      → (mode ≡ rule.mode) × (other ≡ sheet)
  text-sound-as e = let d = text-sound.1 in (cc, cc)
