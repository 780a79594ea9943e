-- The used nodes of two sheets with the same used nodes and one action list: they trip on the same sequences, and have one rule over one list of
-- rows.
-- Assumes nothing.
use mathlib.Core.Path.{◌≡◌, sym, ap, ◌∙◌}
use Prim.Native.Nat.{ℕ}
use native.Mathlib.Decide.{dec_lt}
use native.Mathlib.Omega.{arith}
use Rattle.automaton.specs.Machine.{transition}
use Rattle.policy.specs.Formula.{holds}
use Rattle.policy.specs.Typing.{policy_type}
use Rattle.policy.specs.Trips.{trips_policy}
use Rattle.policy.specs.Value.{Part}
use Rattle.syntax.specs.Formed.{Formed}
use Rattle.syntax.specs.Nodes.{node_of, propositions_of}
use Rattle.syntax.specs.declared.Sheet.{Sheet}
use Rattle.reached.specs.Parts.{Used}
use Rattle.reached.proofs.NodeParts.{over_equal}
use Rattle.renumbering.specs.SameUsed.{SameUsed}
use Rattle.renumbering.proofs.Numbering.{part-used, node-along}
use Rattle.renumbering.proofs.Meanings.{policy-alike, formula-alike}
use Rattle.sheet_reading.specs.ReadFrom.{NothingBehind}
use Rattle.node_rules.specs.Nodes.{Tables, trips_node, satisfied_by, rule_from, rule_part, part_of, rule_on}
use Rattle.node_rules.proofs.RulesOver.{rule-over}
use Rattle.compiler_laws.specs.Demands.{OneActionList}

-- Sheets with one action list, and nothing behind it, have one function of propositions.
pub one_list : {sheet other : Sheet} → NothingBehind sheet → NothingBehind other → OneActionList sheet other
    → propositions_of sheet ≡ propositions_of other
one_list {sheet} {other} none none' one = λ i a. each a i
  where
    each : (a : ℕ) → propositions_of sheet a ≡ propositions_of other a
    each a = elim (dec_lt a sheet.actions) [
      | yes h ↦ one.entries a h
      | no h ↦ none.no-action a (omega arith) ∙ sym (none'.no-action a (omega (arith, one.count)))
    ]

-- The rows of the other sheet's nodes, by the numbers of the first.
abbrev pub along : {sheet other : Sheet} → SameUsed sheet other → Tables → Tables
along same tables n = tables (same.to n)

module _ {sheet other : Sheet} (formed : Formed sheet) (formed' : Formed other) (same : SameUsed sheet other)
    (actions : sheet.actions ≡ other.actions) (list : propositions_of sheet ≡ propositions_of other) where
  -- A used node trips on the same sequences in both sheets.
  pub trips-along : (n : ℕ) → Used sheet n → trips_node sheet n ≡ trips_node other (same.to n)
  trips-along n u = λ i. trips_policy (list i) (policy-alike formed formed' same n u i)

  satisfied-along : (n : ℕ) → Used sheet n → satisfied_by sheet n ≡ satisfied_by other (same.to n)
  satisfied-along n u = λ i a. holds (formula-alike formed formed' same n u i) (list i a)

  module _ (tables : Tables) where
    abbrev f : ℕ → Part
    f = part_of sheet (along same tables)

    abbrev g : ℕ → Part
    g = part_of other tables

    part : (n : ℕ) → f n ≡ g (same.to n)
    part n = ap (λ (k : ℕ). transition 255 k (tables (same.to n))) actions

    -- what stands for a part, its type and what satisfies it are the same
    part-along : (i : ℕ) → Used sheet i → rule_part sheet f i ≡ rule_part other g (same.to i)
    part-along i u = λ j. record { part = part i j; type = policy_type (policy-alike formed formed' same i u j); hit = satisfied-along i u j }

    -- A used node has one rule in both sheets, over the rows of its parts.
    pub rule-along : (n : ℕ) → Used sheet n → rule_on sheet (along same tables) n ≡ rule_on other tables (same.to n)
    rule-along n u =
        rule-over sheet f (node_of sheet n)
        ∙ ap rule_from (over_equal (rule_part sheet f) (λ i. rule_part other g (same.to i)) (node_of sheet n) (λ i p. part-along i (part-used sheet formed u p).0)
        ∙ sym (node-along same (rule_part other g) n u))
        ∙ sym (rule-over other g (node_of other (same.to n)))
