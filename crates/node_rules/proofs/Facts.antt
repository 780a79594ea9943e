-- The nodes of a sound sheet, as policies and as the rules that the code has for them.
-- Assumes nothing.
use mathlib.Core.Path.{◌≡◌, refl}
use mathlib.Core.List.{List}
use Prim.Native.Nat.{ℕ, ◌<◌}
use native.Mathlib.Omega.{arith}
use Rattle.std.specs.Prelude.{Option, Some}
use Rattle.trace.specs.declared.Mode.{Mode}
use Rattle.policy.specs.declared.Bound.{Bound}
use Rattle.policy.specs.Parts.{AllParts}
use Rattle.policy.specs.Rule.{Rule, on_parts, rule_of}
use Rattle.policy.specs.Typing.{typed as Typed, policy_type}
use Rattle.syntax.specs.Nodes.{propositions_of}
use Rattle.syntax.specs.Types.{type_at}
use Rattle.syntax.specs.Meaning.{node_policy}
use Rattle.typing.specs.Typed.{SoundSheet}
use Rattle.syntax.specs.declared.NodeType.{NodeType}
use Rattle.syntax.specs.declared.NodeType.TheVariants.{Unused, Formula, Policy}
use Rattle.syntax.specs.declared.Sheet.{Sheet}
use Rattle.typing.proofs.Meanings.{policy-of}
use Rattle.syntax.proofs.NodeTypes.{PolicyBefore}
use Rattle.rules.specs.Codes.{CountInRange}
use Rattle.rules.specs.Rules.{rule_over, rule_at, EarlierRule}
use Rattle.rules.specs.declared.NodeRule.{NodeRule}
use Rattle.node_rules.specs.Nodes.{node_rule}
use Rattle.node_rules.specs.Lowering.{SameRule, opens, filters, equal}
use Rattle.node_rules.specs.SheetRules.{sheet_rules}
use Rattle.node_rules.proofs.NodeRules.{rule-typed, policy-right}

-- A policy node has its type, is the policy of its rule over earlier policy nodes, and a count from 1 to 60.
pub record NodeFacts (sheet : Sheet) (types : List NodeType) (n : ℕ) (mode : Mode) (bound : Bound) : Type 0 where
  pub type : policy_type (node_policy sheet n) ≡ Typed mode bound
  pub rule : on_parts (node_policy sheet) (node_rule sheet n) ≡ rule_of (propositions_of sheet) (node_policy sheet n)
  pub parts : AllParts (PolicyBefore (type_at types) n) (node_rule sheet n)
  pub count : CountInRange (node_rule sheet n)

-- A node that is a rule is a policy, and used, and the rule says the same as the node's own, over earlier rules.
pub record RuleFacts (sheet : Sheet) (types : List NodeType) (n : ℕ) (code : NodeRule) : Type 0 where
  pub mode : Mode
  pub bound : Bound
  pub is : type_at types n ≡ Policy mode bound
  pub same : SameRule sheet.actions (node_rule sheet n) (rule_over code)
  pub parts : AllParts (EarlierRule (sheet_rules sheet types) n) (rule_over code)
  pub count : CountInRange (rule_over code)

-- rules that say the same have the same parts and the same count
same_parts : (Q : ℕ → Type 0) {actions : ℕ} {r s : Rule ℕ} → SameRule actions r s → AllParts Q s → AllParts Q r
same_parts Q (opens h g e) q = tt
same_parts Q (filters h g e p) q = q
same_parts Q (equal r) q = q

same_count : {actions : ℕ} {r s : Rule ℕ} → SameRule actions r s → CountInRange s → CountInRange r
same_count (opens h g e) c = tt
same_count (filters h g e p) c = tt
same_count (equal r) c = c

module _ {mode : Mode} (sheet : Sheet) (types : List NodeType) (sound : SoundSheet mode sheet types) where
  abbrev rules : List (Option NodeRule)
  rules = sheet_rules sheet types

  module _ (n : ℕ) (below : n < sheet.count) where
    pub node-facts : {m : Mode} {k : Bound} → type_at types n ≡ Policy m k → NodeFacts sheet types n m k
    node-facts e =
        let r = policy-right sheet (PolicyBefore (type_at types) n) types sound n below (λ i p. p) e in
        record {
          type = policy-of sheet types sound n below e;
          rule = r.over;
          parts = same_parts (PolicyBefore (type_at types) n) r.same r.parts;
          count = same_count r.same r.count;
        }

    -- a policy has a rule
    pub policy-rule : {m : Mode} {k : Bound} → type_at types n ≡ Policy m k → (code : NodeRule) × (rule_at (sheet_rules sheet types) n ≡ Some code)
    policy-rule e = let r = policy-right sheet (λ i. Unit {0}) types sound n below (λ i p. tt) e in (r.code, r.is)

  pub rule-facts : (n : ℕ) → n < sheet.count → (code : NodeRule) → rule_at (sheet_rules sheet types) n ≡ Some code → RuleFacts sheet types n code
  rule-facts n below code e = by (type_at types n) refl
    where
      earlier : (i : ℕ) → PolicyBefore (type_at types) n i → EarlierRule rules n i
      earlier i p = let r = policy-rule i (omega (arith, p.before)) p.is in record { before = p.before; rule = r.0; is = r.1 }

      by : (t : NodeType) → type_at types n ≡ t → RuleFacts sheet types n code
      by Unused p = let r = rule-typed sheet types sound.formed.few-nodes n below p in absurd (let z : ◌≡◌ {A = ℕ} 0 1 = cc in omega arith)
      by Formula p = let r = rule-typed sheet types sound.formed.few-nodes n below p in absurd (let z : ◌≡◌ {A = ℕ} 0 1 = cc in omega arith)
      by (Policy m k) p =
          let r = policy-right sheet (EarlierRule rules n) types sound n below earlier p in
          let alike : r.code ≡ code = cc in
          record {
            mode = m;
            bound = k;
            is = p;
            same = rw alike at r.same;
            parts = rw alike at r.parts;
            count = rw alike at r.count;
          }
