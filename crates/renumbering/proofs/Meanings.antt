-- The meanings of used nodes are the same in sheets with the same used nodes.
-- Assumes nothing.
use mathlib.Core.Path.{◌≡◌, sym, ap, ◌∙◌}
use Prim.Native.Nat.{ℕ, zero, suc, ◌-◌, ◌<◌}
use native.Mathlib.Nat.{lt-suc_self}
use native.Mathlib.Omega.{arith}
use Rattle.syntax.specs.Formed.{Formed}
use Rattle.syntax.specs.Nodes.{node_of}
use Rattle.syntax.specs.Meaning.{as_formula, as_policy, meaning_at, formula_at, meaning_from, meanings, node_policy, sheet_policy}
use Rattle.syntax.specs.declared.Sheet.{Sheet}
use Rattle.reached.specs.Reached.{itself}
use Rattle.reached.specs.Parts.{Used}
use Rattle.reached.proofs.NodeParts.{over_equal}
use Rattle.typing.proofs.Meanings.{node_meaning, meaning-of, meaning-stays}
use Rattle.renumbering.specs.SameUsed.{SameUsed}
use Rattle.renumbering.proofs.Numbering.{part-used, last-to-last, node-along}

module _ {sheet other : Sheet} (formed : Formed sheet) (formed' : Formed other) (same : SameUsed sheet other) where
  alike-below : (k n : ℕ) → n < k → Used sheet n → node_meaning sheet n ≡ node_meaning other (same.to n)
  alike-below zero n h u = absurd (omega arith)
  alike-below (suc k) n h u =
      meaning-of sheet n
      ∙ ap meaning_from (over_equal (meaning_at (meanings sheet.nodes n)) (λ i. meaning_at (meanings other.nodes (same.to n)) (same.to i)) (node_of sheet n) (λ i p.
      let b = part-used sheet formed u p in
      meaning-stays sheet n i b.1
      ∙ alike-below k i (omega (arith, b.1)) b.0
      ∙ sym (meaning-stays other (same.to n) (same.to i) (same.order i n b.0 u b.1)))
      ∙ sym (node-along same (meaning_at (meanings other.nodes (same.to n))) n u))
      ∙ sym (meaning-of other (same.to n))

  -- A used node means the same in both sheets.
  meaning-alike : (n : ℕ) → Used sheet n → node_meaning sheet n ≡ node_meaning other (same.to n)
  meaning-alike n = alike-below (suc n) n (lt-suc_self n)

  pub policy-alike : (n : ℕ) → Used sheet n → node_policy sheet n ≡ node_policy other (same.to n)
  policy-alike n u = ap as_policy (meaning-alike n u)

  pub formula-alike : (n : ℕ) → Used sheet n
      → formula_at (meanings sheet.nodes (suc n)) n ≡ formula_at (meanings other.nodes (suc (same.to n))) (same.to n)
  formula-alike n u = ap as_formula (meaning-alike n u)

  -- The two sheets have one policy.
  pub sheet-policy-alike : sheet_policy sheet ≡ sheet_policy other
  sheet-policy-alike = policy-alike (sheet.count - 1) itself ∙ ap (node_policy other) (last-to-last formed formed' same)
