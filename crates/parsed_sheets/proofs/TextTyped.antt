-- Checks 6 and 7 of the sheet of a rule text: neither ever comes. It is sound, of the text's mode, and its policy has a low bound.
-- Assumes nothing.
use Rattle.syntax.specs.declared.NodeType.{NodeType}
use mathlib.Core.Path.{◌≡◌, refl, subst, sym, ◌∙◌}
use mathlib.Core.List.{List}
use Prim.Native.Nat.{ℕ, ◌+◌, ◌*◌, ◌-◌}
use native.Mathlib.Nat.{zero-add}
use native.Mathlib.Omega.{arith}
use lib.ListN.{length}
use Rattle.trace.specs.declared.Mode.{Mode}
use Rattle.policy.proofs.Typings.{same-type}
use Rattle.policy.specs.Typing.{typed as Typed, policy_type}
use Rattle.policy.specs.declared.Bound.{Bound}
use Rattle.syntax.specs.Types.{type_at}
use Rattle.typing.specs.Typed.{typed, no_types, type_nodes, sound, judge_sheet}
use Rattle.syntax.specs.declared.Sheet.{Sheet}
use Rattle.reached.specs.Parts.{used_set}
use Rattle.grammar.specs.Words.{Word}
use Rattle.grammar.specs.Grammar.{TextRule, Reads}
use Rattle.grammar.specs.Nodes.{policy_nodes}
use Rattle.grammar.specs.declared.Category.TheVariants.{Text}
use Rattle.parsed_sheets.specs.Sheets.{sheet_for, Small}
use Rattle.parsed_sheets.specs.Bounds.{AtMost, RuleTyped}
use Rattle.parsed_sheets.proofs.ListedNodes.{nodes-listed}
use Rattle.parsed_sheets.proofs.AllUsed.{text_in-use}
use Rattle.parsed_sheets.proofs.Bounds.{IsPolicy}
use Rattle.parsed_sheets.proofs.Blocks.{Fit}
use Rattle.parsed_sheets.proofs.TypedNodes.{typing}

module _ (actions : List ℕ) {ws : List Word} {rule : TextRule} (reads : Reads Text ws rule) (small : Small rule.policy) where
  abbrev sheet : Sheet
  sheet = sheet_for actions rule.policy

  abbrev size : ℕ
  size = length (policy_nodes 0 rule.policy)

  fit : Fit sheet 0 (policy_nodes 0 rule.policy) (IsPolicy rule.mode rule.policy size) no_types
  fit =
      typing sheet (record { few = small; in_use = text_in-use actions reads small }) reads 0 (nodes-listed actions rule.policy) (omega arith) no_types
      (record { all = refl; sized = refl })

  none : 0 + size ≡ size
  none = zero-add size

  last : IsPolicy rule.mode rule.policy size (type_at fit.after (size - 1))
  last = rw none at fit.has

  -- The sheet of a text is sound, of the text's mode.
  pub text-typed : (types : List NodeType) × (judge_sheet sheet ≡ sound rule.mode sheet types)
  text-typed =
      let all : type_nodes (used_set sheet) sheet.nodes size ≡ typed fit.after = rw none at fit.typed.all in
      (fit.after, rw (all, last.is))

  -- Its policy has a type, of a low bound.
  pub text-well-typed : RuleTyped rule
  text-well-typed = record { bound = last.bound; type = last.type; low = last.low }

  -- Whatever type its policy has, a finite bound is at most 60 a node.
  pub text-bound : {m : Mode} {k : Bound} → policy_type rule.policy ≡ Typed m k → AtMost k (60 * size)
  text-bound {m} {k} e =
      let same = (same-type (sym text-well-typed.type ∙ e)).1 in
      subst (λ (b : Bound). AtMost b (60 * size)) same text-well-typed.low
