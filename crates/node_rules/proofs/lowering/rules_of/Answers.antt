-- The goals of `node_rules::lowering::rules_of` that the check leaves.
use mathlib.Core.Path.{◌≡◌, refl, sym, ◌∙◌}
use mathlib.Core.List.{List}
use Prim.Native.Nat.{ℕ, suc}
use native.Mathlib.Numerals.{add-one}
use lib.ListN.{set}
use Rattle.std.specs.Prelude.{Option, None}
use Rattle.base.proofs.Filled.{filled-skip}
use Rattle.trace.specs.declared.Mode.{Mode}
use Rattle.policy.specs.declared.Bound.{Bound}
use Rattle.syntax.specs.Nodes.{node_at}
use Rattle.syntax.specs.Types.{type_at}
use Rattle.syntax.specs.declared.Node.{Node}
use Rattle.syntax.specs.declared.NodeType.{NodeType}
use Rattle.syntax.specs.declared.NodeType.TheVariants.{Unused, Formula, Policy}
use Rattle.rules.specs.declared.NodeRule.{NodeRule}
use Rattle.node_rules.specs.Lowering.{lowered, of_policy, rules_of, set_at}
use Rattle.node_rules.proofs.lowering.rules_of.Goals as goal
use Rattle.node_rules.proofs.lowering.rules_of.Goals.{in-Policy, in_default}

module _ (nodes : List Node) (types : List NodeType) (sets : List ℕ) (actions n : ℕ) {rules : List (Option NodeRule)}
    (so-far : rules ≡ rules_of nodes types sets actions n) where
  -- the node's own rule, by its type
  abbrev own : NodeType → Option NodeRule
  own t = of_policy t (λ m. lowered m actions (set_at sets) (node_at nodes n))

  -- node n is no policy
  skipped : ((m : Mode) (k : Bound) → type_at types n ≡ Policy m k → ⊥) → rules ≡ rules_of nodes types sets actions (suc n)
  skipped none =
      so-far
      ∙ sym (filled-skip 64 None (λ i l. of_policy (type_at types i) (λ m. lowered m actions (set_at sets) (node_at nodes i))) n (by (type_at types n) none))
    where
      by : (t : NodeType) → ((m : Mode) (k : Bound) → t ≡ Policy m k → ⊥) → own t ≡ None
      by Unused h = refl
      by Formula h = refl
      by (Policy m k) h = absurd (h m k refl)

  -- it is one, and has its rule
  listed : {m : Mode} {k : Bound} {rule : Option NodeRule} → type_at types n ≡ Policy m k → rule ≡ lowered m actions (set_at sets) (node_at nodes n)
      → set rules n rule ≡ rules_of nodes types sets actions (suc n)
  listed is e = rw (e, so-far, is) refl

pub loop-n-preserved : goal.loop-n-preserved
loop-n-preserved c =
    let a = c.args in
    let n = c.loop-n.n in
    let so-far = c.loop-n.invariant in
    rw (add-one n)
    (elim c.match-types-n.branch [
      | in-Policy w ↦
          w.rules-is ∙ listed a.sheet.now.nodes a.types.now a.sets.now a.sheet.now.actions n so-far w.in-Policy.is w.lower.ensures
      | in_default w ↦
          w.rules-is ∙ skipped a.sheet.now.nodes a.types.now a.sets.now a.sheet.now.actions n so-far w.in_default.not-Policy
    ])
