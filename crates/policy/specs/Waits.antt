-- What the laws of Fulfilling speak of, in plain quantifiers (proofs/Waits.antt, Typings.antt).
-- Assumes nothing.
use Rattle.std.specs.Prelude.{◌≡◌, true, false, List, ℕ, ◌≤◌, ◌<◌, length, take}
use Rattle.policy.specs.Operators.{Property}
use Rattle.policy.specs.Policy.{Policy}
use Rattle.policy.specs.Typing.{Mode, watched, enforced, Bound, finite, typed, larger, plus, policy_type}

-- The first n actions satisfy P, and no shorter prefix does.
abbrev pub Shortest : Property → List ℕ → ℕ → Type 0
Shortest P w n = (n ≤ length w) × (P (take n w) ≡ true) × ((m : ℕ) → m < n → P (take m w) ≡ false)

-- No prefix of at most k actions satisfies P.
abbrev pub NotWithin : ℕ → Property → List ℕ → Type 0
NotWithin k P w = (n : ℕ) → n ≤ length w → n ≤ k → P (take n w) ≡ false

-- Fulfilling k a b c is of this type: a is watched, of whatever bound, b and c are enforced, and so is the whole; its bound is k plus the larger of
-- theirs.
pub record FulfillingTyped (k : ℕ) (a b c : Policy) (m : Mode) (bound : Bound) : Type 0 where
  pub enforced-whole : m ≡ enforced
  pub ka : Bound
  pub kb : Bound
  pub kc : Bound
  pub watched-a : policy_type a ≡ typed watched ka
  pub enforced-b : policy_type b ≡ typed enforced kb
  pub enforced-c : policy_type c ≡ typed enforced kc
  pub bound-is : bound ≡ plus (finite k) (larger kb kc)
