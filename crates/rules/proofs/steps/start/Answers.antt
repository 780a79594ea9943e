-- `rules::steps::start` meets its contract: a copy begins at row 0, a wait of no actions is over, and every other value is 0.
use mathlib.Core.Path.{◌≡◌, refl}
use mathlib.Core.List.{List}
use Prim.Native.Nat.{ℕ}
use borrow.Author.Tests.{lt-leb}
use native.Mathlib.Omega.{arith}
use Rattle.rules.specs.declared.NodeRule.{NodeRule}
use Rattle.rules.specs.declared.NodeRule.TheVariants.{Opening, Count, Same, Both, Either, Copied, Before, After, Fulfilling, Ignoring}
use Rattle.rules.specs.Steps.{code_start}
use Rattle.rules.proofs.steps.start.Goals as goal

module _ (actions : ℕ) (work : List ℕ) where
  over : (rule : NodeRule) (k a b c : ℕ) → rule ≡ Fulfilling k a b c → k ≡ 0 → 131072 ≡ code_start actions work rule
  over rule k a b c e h = rw (e, h)

  waits : (rule : NodeRule) (k a b c : ℕ) → rule ≡ Fulfilling k a b c → (k ≡ 0 → ⊥) → 0 ≡ code_start actions work rule
  waits rule k a b c e h = rw (e, lt-leb k 0 (omega arith))

  others : (rule : NodeRule) → ((x : ℕ) → rule ≡ Copied x → ⊥) → ((k a b c : ℕ) → rule ≡ Fulfilling k a b c → ⊥) → 0 ≡ code_start actions work rule
  others (Opening s) n m = refl
  others (Count k) n m = refl
  others (Same a) n m = refl
  others (Both a b) n m = refl
  others (Either a b) n m = refl
  others (Copied a) n m = absurd (n a refl)
  others (Before a b) n m = refl
  others (After a b) n m = refl
  others (Fulfilling k a b c) n m = absurd (m k a b c refl)
  others (Ignoring s a) n m = refl

pub returns-in-Copied : goal.returns-in-Copied
returns-in-Copied c = rw c.in-Copied.is

pub returns-then-k-eq0 : goal.returns-then-k-eq0
returns-then-k-eq0 c =
    let a = c.args in
    over a.actions a.work.now a.rule _ _ _ _ c.in-Fulfilling.is c.if-k-eq0.true

pub returns-else-k-eq0 : goal.returns-else-k-eq0
returns-else-k-eq0 c =
    let a = c.args in
    waits a.actions a.work.now a.rule _ _ _ _ c.in-Fulfilling.is c.if-k-eq0.false

pub returns-in_default : goal.returns-in_default
returns-in_default c = let a = c.args in others a.actions a.work.now a.rule c.in_default.not-Copied c.in_default.not-Fulfilling
