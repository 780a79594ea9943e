-- The goals of `node_rules::sets::formula_sets` that the check leaves.
use mathlib.Core.Path.{◌≡◌, refl, sym, ap, ◌∙◌}
use mathlib.Core.List.{List}
use Prim.Native.Nat.{ℕ, suc, ◌<◌}
use native.Mathlib.Numerals.{add-one}
use lib.ListN.{length, set, length-set}
use Rattle.base.proofs.Filled.{filled-skip}
use Rattle.trace.specs.declared.Mode.{Mode}
use Rattle.syntax.specs.Nodes.{node_of}
use Rattle.syntax.specs.Types.{type_at}
use Rattle.syntax.specs.declared.NodeType.{NodeType}
use Rattle.syntax.specs.declared.NodeType.TheVariants.{Unused, Formula, Policy}
use Rattle.syntax.specs.declared.Sheet.{Sheet}
use Rattle.typing.specs.Typed.{SoundSheet}
use Rattle.node_rules.specs.FormulaSets.{satisfying, of_formula, first_sets, set_from}
use Rattle.node_rules.specs.Lowering.{set_at}
use Rattle.node_rules.proofs.FormulaSets.{set-right}
use Rattle.node_rules.proofs.sets.formula_sets.Goals as goal
use Rattle.node_rules.proofs.sets.formula_sets.Goals.{in-Formula, in_default}

module _ (sheet : Sheet) (types : List NodeType) (n : ℕ) {sets : List ℕ} (so-far : sets ≡ first_sets sheet types n) where
  -- node n is no formula
  skipped : (type_at types n ≡ Formula → ⊥) → sets ≡ first_sets sheet types (suc n)
  skipped none =
      so-far ∙ sym (filled-skip 64 0 (λ i l. of_formula (type_at types i) (satisfying sheet i)) n (by (type_at types n) none))
    where
      by : (t : NodeType) → (t ≡ Formula → ⊥) → of_formula t (satisfying sheet n) ≡ 0
      by Unused h = refl
      by Formula h = absurd (h refl)
      by (Policy m k) h = refl

  -- it is one, and has its set
  listed : {mode : Mode} {own : ℕ} → SoundSheet mode sheet types → n < sheet.count → type_at types n ≡ Formula
      → own ≡ set_from sheet.propositions sheet.actions (set_at sets) (node_of sheet n) → set sets n own ≡ first_sets sheet types (suc n)
  listed sound below is e =
      rw (e, so-far, is) (ap (set (first_sets sheet types n) n) (set-right sheet types sound n below is))

pub formula_set-requires : goal.formula_set-requires
formula_set-requires c =
    let sound = c.requires.1 in
    record { actions_bound = (sound.formed.few-actions, c.loop-n.invariant.1); argument_fits = sound.formed.arguments c.loop-n.n c.loop-n-test.true }

pub loop-n-preserved : goal.loop-n-preserved
loop-n-preserved c =
    let n = c.loop-n.n in
    let so-far = c.loop-n.invariant.0 in
    let long = c.loop-n.invariant.1 in
    rw (add-one n)
    (elim c.match-types-n.branch [
      | in-Formula w ↦ (
        w.sets-is ∙ listed c.args.sheet.now c.args.types.now n so-far c.requires.1 c.loop-n-test.true w.in-Formula.is w.formula_set.ensures,
        ap (λ (l : List ℕ). length l) w.sets-is ∙ length-set c.loop-n.sets n w.formula_set.result ∙ long,
      )
      | in_default w ↦ (
        w.sets-is ∙ skipped c.args.sheet.now c.args.types.now n so-far w.in_default.not-Formula,
        ap (λ (l : List ℕ). length l) w.sets-is ∙ long,
      )
    ])
