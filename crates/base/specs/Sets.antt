-- Sets of small numbers as the bits of a number: bit i for number i.
-- Assumes nothing.
use Rattle.std.specs.Prelude.{◌≡◌, Bool, cond, ℕ, zero, suc, ◌+◌, ◌-◌, ◌/◌, ◌%◌, ◌^◌, ◌<◌, eqb}
use Rattle.std.specs.Int.Bits.{bit_and}

-- Whether a number is in a set.
abbrev pub bit : ℕ → ℕ → Bool
bit set i = eqb (set / 2 ^ i % 2) 1

-- It is in the set. (`member-bit`, proofs/Bits.antt: exactly when its bit is set.)
abbrev pub Member : ℕ → ℕ → Type 0
Member set i = set / 2 ^ i % 2 ≡ 1

-- The set of the numbers below n of which a test is true. (`set-exactly`, proofs/Sets.antt: a number is this set exactly when it has these members.)
abbrev pub set_below : (test : ℕ → Bool) → ℕ → ℕ
set_below test zero = 0
set_below test (suc n) = cond (test n) (2 ^ n) 0 + set_below test n

-- The set of all numbers below n.
abbrev pub every_below : ℕ → ℕ
every_below n = 2 ^ n - 1

-- The numbers below n that are not in a set of numbers below 16.
abbrev pub others_below : (n set : ℕ) → ℕ
others_below n set = bit_and (every_below n) (65535 - set)

-- The lowest member of a set.
pub record LowestIn (set i : ℕ) : Type 0 where
  pub member : Member set i
  pub lowest : (j : ℕ) → j < i → set / 2 ^ j % 2 ≡ 0
