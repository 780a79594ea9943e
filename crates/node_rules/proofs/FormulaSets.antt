-- The set of a formula node of a sound sheet, worked out from those of its parts, has the actions that satisfy the formula.
-- Assumes nothing.
use mathlib.Core.Path.{◌≡◌, refl, sym, ap, subst, ◌∙◌}
use mathlib.Core.Bool.{Bool, false}
use mathlib.Core.List.{List}
use Prim.Native.Nat.{ℕ, ◌≤◌, ◌<◌}
use native.Mathlib.Omega.{arith}
use Rattle.base.specs.Sets.{bit, set_below}
use Rattle.base.proofs.Bits.{member-bit}
use Rattle.base.proofs.Filled.{filled_at}
use Rattle.base.proofs.Sets.{set-width, in-set, member-test, no-members, set-every, set-others, set-and, set-or}
use Rattle.trace.specs.declared.Mode.{Mode}
use Rattle.policy.specs.Formula.{Formula as ActionFormula, holds}
use Rattle.syntax.specs.Nodes.{node_of, propositions_of}
use Rattle.syntax.specs.Types.{type_at}
use Rattle.syntax.specs.Meaning.{Meaning, formula, policy, as_formula, formula_at, meaning_of, meanings}
use Rattle.typing.specs.Typed.{SoundSheet, Agrees}
use Rattle.syntax.specs.declared.Node.{Node}
use Rattle.syntax.specs.declared.Node.TheVariants.{True, False, Proposition, Negation, Conjunction, Disjunction, Now, Holds, Count, Not, And, Or, Eventually, Always, BeforeMinus, BeforePlus, AfterMinus, AfterPlus, Fulfilling, Ignoring}
use Rattle.syntax.specs.declared.NodeType.{NodeType}
use Rattle.syntax.specs.declared.NodeType.TheVariants.{Formula}
use Rattle.syntax.specs.declared.Sheet.{Sheet}
use Rattle.typing.proofs.Meanings.{node_meaning, meaning-of, meaning-stays, node-parts, agrees}
use Rattle.typing.proofs.Sound.{typed-formula}
use Rattle.syntax.proofs.NodeTypes.{EachPart, FormulaBefore, PolicyBefore}
use Rattle.node_rules.specs.Nodes.{satisfied_by}
use Rattle.node_rules.specs.FormulaSets.{satisfying, SatisfyingExactly, of_formula, first_sets, set_from}
use Rattle.node_rules.specs.Lowering.{set_at}

-- the one law between 'the formula holds' and 'the bit is set'
pub satisfying-bit : (sheet : Sheet) (n a : ℕ) → a < sheet.actions → bit (satisfying sheet n) a ≡ satisfied_by sheet n a
satisfying-bit sheet n a h = in-set (satisfied_by sheet n) sheet.actions a h

pub satisfying-exactly : (sheet : Sheet) (n : ℕ) → SatisfyingExactly sheet n
satisfying-exactly sheet n =
    record {
      sound = λ a e. member-test (satisfied_by sheet n) sheet.actions a ((member-bit (satisfying sheet n) a).1 e);
      complete = λ a h e. satisfying-bit sheet n a h ∙ e;
      width = set-width (satisfied_by sheet n) sheet.actions;
    }

module _ (sheet : Sheet) (few : sheet.actions ≤ 16) where
  -- the set of a formula
  abbrev set_of : ActionFormula → ℕ
  set_of f = set_below (λ a. holds f (propositions_of sheet a)) sheet.actions

  -- a node that means a formula has the formula's set
  abbrev SetFor : Meaning → ℕ → Type 0
  SetFor (formula f) s = s ≡ set_of f
  SetFor (policy p) s = Unit {0}

  set-for : (x : Meaning) {s : ℕ} → Agrees Formula x → SetFor x s → s ≡ set_of (as_formula x)
  set-for (formula f) a r = r
  set-for (policy p) a r = absurd a

  module _ (n : ℕ) (before : List Meaning) (sets : ℕ → ℕ) (types : ℕ → NodeType)
      (part : (i : ℕ) → FormulaBefore types n i → sets i ≡ set_of (formula_at before i)) where
    abbrev holding : ℕ → ℕ → Bool
    holding i a = holds (formula_at before i) (propositions_of sheet a)

    from_parts : (node : Node) → EachPart (FormulaBefore types n) (PolicyBefore types n) node
        → SetFor (meaning_of before node) (set_from sheet.propositions sheet.actions sets node)
    from_parts True h = set-every sheet.actions
    from_parts False h = sym (no-members (λ a. false) sheet.actions (λ i h. refl))
    from_parts (Proposition p) h = refl
    from_parts (Negation a) h = rw (part a h) (set-others (holding a) sheet.actions few)
    from_parts (Conjunction a b) h = rw (part a h.0, part b h.1) (set-and (holding a) sheet.actions (holding b))
    from_parts (Disjunction a b) h = rw (part a h.0, part b h.1) (set-or (holding a) sheet.actions (holding b))
    from_parts (Now a) h = tt
    from_parts (Holds a) h = tt
    from_parts (Count k) h = tt
    from_parts (Not a) h = tt
    from_parts (And a b) h = tt
    from_parts (Or a b) h = tt
    from_parts (Eventually a) h = tt
    from_parts (Always a) h = tt
    from_parts (BeforeMinus a b) h = tt
    from_parts (BeforePlus a b) h = tt
    from_parts (AfterMinus a b) h = tt
    from_parts (AfterPlus a b) h = tt
    from_parts (Fulfilling k a b c) h = tt
    from_parts (Ignoring a b) h = tt

module _ (sheet : Sheet) (types : List NodeType) where
  -- a used formula node has its set
  pub set-listed : (j n : ℕ) → n < j → j ≤ 64 → type_at types n ≡ Formula → set_at (first_sets sheet types j) n ≡ satisfying sheet n
  set-listed j n h g e =
      filled_at 64 0 (λ i sets. of_formula (type_at types i) (satisfying sheet i)) j n h g ∙ ap (λ (t : NodeType). of_formula t (satisfying sheet n)) e

  module _ {mode : Mode} (sound : SoundSheet mode sheet types) (n : ℕ) (below : n < sheet.count) (e : type_at types n ≡ Formula) where
    part : (i : ℕ) → FormulaBefore (type_at types) n i → set_at (first_sets sheet types n) i ≡ set_of sheet sound.formed.few-actions (formula_at (meanings sheet.nodes n) i)
    part i p = rw (meaning-stays sheet n i p.before) (set-listed n i p.before (omega (arith, sound.formed.few-nodes)) p.is)

    -- it is worked out from the sets of the nodes before it
    pub set-right : set_from sheet.propositions sheet.actions (set_at (first_sets sheet types n)) (node_of sheet n) ≡ satisfying sheet n
    set-right =
        let few = sound.formed.few-actions in
        set-for sheet few (node_meaning sheet n) (rw e at (agrees sheet types sound n below (typed-formula e)))
        (subst (λ (x : Meaning). SetFor sheet few x (set_from sheet.propositions sheet.actions (set_at (first_sets sheet types n)) (node_of sheet n))) (sym (meaning-of sheet n))
        (from_parts sheet few n (meanings sheet.nodes n) (set_at (first_sets sheet types n)) (type_at types) part (node_of sheet n) (node-parts sheet types sound n below (typed-formula e))))
