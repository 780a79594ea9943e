-- An example: the sheet of Count 2, and the same with two leftovers in front, one of them ill typed. They have the same used nodes.
-- Assumes nothing.
use Rattle.syntax.specs.declared.NodeType.{NodeType}
use mathlib.Core.Path.{◌≡◌, refl, sym, subst}
use mathlib.Core.Bool.{true}
use mathlib.Core.List.{List, ◌∷◌}
use Prim.Native.Nat.{ℕ, zero, suc, ◌+◌, ◌<◌}
use native.Mathlib.Omega.{arith}
use lib.ListN.{replicate}
use Rattle.base.specs.Sets.{bit}
use Rattle.base.proofs.Truths.{not-true}
use Rattle.trace.specs.declared.Mode.TheVariants.{Watched}
use Rattle.syntax.specs.Nodes.{no_propositions, node_of}
use Rattle.syntax.specs.Shape.{shape_of, with_parts}
use Rattle.syntax.specs.Formed.{PartsBelow, ArgumentFits, Formed}
use Rattle.syntax.specs.declared.Node.TheVariants.{True, Count, Always}
use Rattle.syntax.specs.declared.Sheet.{Sheet}
use Rattle.reached.specs.Reached.{itself}
use Rattle.reached.specs.Parts.{Used, used_set}
use Rattle.reached.proofs.NodeSets.{used-exactly, used-below}
use Rattle.typing.specs.Typed.{sound, judge_sheet}
use Rattle.renumbering.specs.SameUsed.{SameUsed}

-- node 0 is the policy
abbrev pub alone : Sheet
alone = record { actions = 1; propositions = no_propositions; count = 1; nodes = Count 2 ∷ replicate 63 True }

-- node 0 is a formula, node 1 an Always of it, which is ill typed, and node 2 the policy
abbrev pub behind_two : Sheet
behind_two =
    record {
      actions = 1;
      propositions = no_propositions;
      count = 3;
      nodes = True ∷ (Always 0 ∷ (Count 2 ∷ replicate 61 True));
    }

alone-formed : Formed alone
alone-formed =
    record {
      some-action = omega arith;
      few-actions = omega arith;
      some-node = omega arith;
      few-nodes = omega arith;
      parts = parts;
      arguments = arguments;
    }
  where
    parts : (n : ℕ) → n < 1 → PartsBelow n (node_of alone n)
    parts zero h = tt
    parts (suc n) h = absurd (omega arith)

    arguments : (n : ℕ) → n < 1 → ArgumentFits (node_of alone n)
    arguments zero h = (omega arith, omega arith)
    arguments (suc n) h = absurd (omega arith)

behind-formed : Formed behind_two
behind-formed =
    record {
      some-action = omega arith;
      few-actions = omega arith;
      some-node = omega arith;
      few-nodes = omega arith;
      parts = parts;
      arguments = arguments;
    }
  where
    parts : (n : ℕ) → n < 3 → PartsBelow n (node_of behind_two n)
    parts zero h = tt
    parts (suc zero) h = omega arith
    parts (suc (suc zero)) h = tt
    parts (suc (suc (suc n))) h = absurd (omega arith)

    arguments : (n : ℕ) → n < 3 → ArgumentFits (node_of behind_two n)
    arguments zero h = tt
    arguments (suc zero) h = tt
    arguments (suc (suc zero)) h = (omega arith, omega arith)
    arguments (suc (suc (suc n))) h = absurd (omega arith)

only-first : {n : ℕ} → Used alone n → n ≡ 0
only-first u = let h = used-below alone alone-formed u in omega arith

only-last : (m : ℕ) → Used behind_two m → m ≡ 2
only-last m u = by m ((used-exactly behind_two behind-formed m).1 u) (used-below behind_two behind-formed u)
  where
    by : (m : ℕ) → bit (used_set behind_two) m ≡ true → m < 3 → m ≡ 2
    by zero e h = not-true e
    by (suc zero) e h = not-true e
    by (suc (suc zero)) e h = refl
    by (suc (suc (suc m))) e h = absurd (omega arith)

-- They have the same used nodes: node 0 of the one is node 2 of the other.
pub leftover-same : SameUsed alone behind_two
leftover-same =
    record {
      to = λ n. n + 2;
      used = λ n u. subst (λ (k : ℕ). Used behind_two (k + 2)) (sym (only-first u)) itself;
      onto = λ m u. (0, itself, sym (only-last m u));
      order = λ n m u v h. absurd (let e = only-first u in let d = only-first v in omega arith);
      nodes = λ n u. subst (λ (k : ℕ). shape_of (node_of behind_two (k + 2)) ≡ with_parts (λ i. i + 2) (shape_of (node_of alone k))) (sym (only-first u)) refl;
    }

-- The sheet with the ill-typed leftover passes 6 and 7.
pub leftover-sound : (types : List NodeType) × (judge_sheet behind_two ≡ sound Watched behind_two types)
leftover-sound = (_, refl)
