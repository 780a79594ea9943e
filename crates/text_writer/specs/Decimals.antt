-- Numbers in decimal, as bytes.
-- Assumes nothing.
use Rattle.std.specs.Prelude.{cond, List, [], ◌∷◌, ◌++◌, ℕ, ◌+◌, ◌/◌, ◌%◌, ltb}

-- the digit of a value below 10
abbrev pub digit : ℕ → List ℕ
digit value = (48 + value) ∷ []

-- a number below 1,000 in decimal, without leading zeros
abbrev pub decimal : ℕ → List ℕ
decimal n =
    cond (ltb n 10) (digit n)
    (cond (ltb n 100) (digit (n / 10) ++ digit (n % 10))
    (digit (n / 100) ++ (digit (n / 10 % 10) ++ digit (n % 10))))
