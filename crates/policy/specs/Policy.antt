-- Policies (docs/FORMATS.md, "Policies", kinds 10 to 23) and their meanings on finite sequences, line by line of its table.
-- Assumes nothing.
use Rattle.std.specs.Prelude.{Bool, true, false, cond, not, ◌&&◌, ◌||◌, List, ℕ, leb, length, drop}
use Rattle.std.proofs.Math.Option.{Option, none, some}
use Rattle.policy.specs.Formula.{Formula, holds}
use Rattle.policy.specs.Operators.{first_action, some_suffix, every_suffix, first, up_to, following, without}

pub data Policy : Type 0 where
  now : Formula → Policy
  holds-first : Formula → Policy
  count : ℕ → Policy
  not-p : Policy → Policy
  and-p : Policy → Policy → Policy
  or-p : Policy → Policy → Policy
  eventually : Policy → Policy
  always : Policy → Policy
  before- : Policy → Policy → Policy
  before+ : Policy → Policy → Policy
  after- : Policy → Policy → Policy
  after+ : Policy → Policy → Policy
  fulfilling : ℕ → Policy → Policy → Policy → Policy
  ignoring : Formula → Policy → Policy

-- a first fulfilled within k actions: what follows satisfies b. Else, once k actions have passed, what follows those k satisfies c. Else satisfied.
abbrev pub late : ℕ → (List ℕ → Bool) → List ℕ → Bool
late k c w = cond (leb k (length w)) (c (drop k w)) true

abbrev pub within : ℕ → Option ℕ → (List ℕ → Bool) → (List ℕ → Bool) → List ℕ → Bool
within k none b c w = late k c w
within k (some n) b c w = cond (leb n k) (b (drop n w)) (late k c w)

-- Whether a finite sequence of actions satisfies a policy. `propositions a` is entry a of the action list.
abbrev pub satisfies : (ℕ → ℕ) → Policy → List ℕ → Bool
satisfies propositions (now f) w = first_action false (λ a. holds f (propositions a)) w
satisfies propositions (holds-first f) w = first_action true (λ a. holds f (propositions a)) w
satisfies propositions (count k) w = leb k (length w)
satisfies propositions (not-p a) w = not (satisfies propositions a w)
satisfies propositions (and-p a b) w = satisfies propositions a w && satisfies propositions b w
satisfies propositions (or-p a b) w = satisfies propositions a w || satisfies propositions b w
satisfies propositions (eventually a) w = some_suffix (satisfies propositions a) w
satisfies propositions (always a) w = every_suffix (satisfies propositions a) w
satisfies propositions (before- a b) w = satisfies propositions b (up_to (first (satisfies propositions a) w) w)
satisfies propositions (before+ a b) w = satisfies propositions b (up_to (first (satisfies propositions a) w) w)
satisfies propositions (after- a b) w = following false (first (satisfies propositions a) w) (satisfies propositions b) w
satisfies propositions (after+ a b) w = following true (first (satisfies propositions a) w) (satisfies propositions b) w
satisfies propositions (fulfilling k a b c) w =
    within k (first (satisfies propositions a) w) (satisfies propositions b) (satisfies propositions c) w
satisfies propositions (ignoring f b) w = satisfies propositions b (without (λ a. holds f (propositions a)) w)
