-- The bytes of a message: a quoted text with its holes filled. `#` and `%` stand for a number each, `@` for a word in quotes, `~` for the word as it is.
-- Assumes nothing.
use Rattle.std.specs.Prelude.{cond, ◌&&◌, List, [], ◌∷◌, ◌++◌, ℕ, ◌+◌, ◌/◌, ◌%◌, eqb, leb, ltb, length, take}
use Prim.Native.String.{String, [] as no-letter, ◌∷◌ as ◌before◌}
use Prim.Native.Char.{code}

-- the bytes of a quoted text
abbrev pub bytes : String → List ℕ
bytes no-letter = []
bytes (letter before rest) = code letter ∷ bytes rest

-- the last digit of a number
abbrev pub digit : ℕ → List ℕ
digit n = (48 + n % 10) ∷ []

-- a number below 1,000 without leading zeros, and with three digits
abbrev pub short : ℕ → List ℕ
short n = cond (ltb n 10) (digit n) (cond (ltb n 100) (digit (n / 10) ++ digit n) (digit (n / 100) ++ (digit (n / 10) ++ digit n)))

abbrev pub three : ℕ → List ℕ
three n = digit (n / 100) ++ (digit (n / 10) ++ digit n)

-- a number below 1,000,000 in decimal, without leading zeros
unfoldable pub decimal : ℕ → List ℕ
decimal n = cond (ltb n 1000) (short n) (short (n / 1000) ++ three n)

-- a hexadecimal digit
abbrev pub hexadecimal : ℕ → ℕ
hexadecimal n = cond (ltb n 10) (48 + n) (87 + n)

-- a byte as it is shown: those that do not print as `\x` and two hexadecimal digits
abbrev pub shown : ℕ → List ℕ
shown byte = cond (leb 32 byte && leb byte 126) (byte ∷ []) (92 ∷ 120 ∷ hexadecimal (byte / 16) ∷ hexadecimal (byte % 16) ∷ [])

abbrev pub all_shown : List ℕ → List ℕ
all_shown [] = []
all_shown (byte ∷ rest) = shown byte ++ all_shown rest

-- a word in quotes, its first 40 bytes
unfoldable pub quoted : List ℕ → List ℕ
quoted word = 34 ∷ (all_shown (take 40 word) ++ cond (ltb 40 (length word)) (46 ∷ 46 ∷ 34 ∷ []) (34 ∷ []))

-- what a byte of a message becomes
unfoldable pub hole : (byte first second : ℕ) → List ℕ → List ℕ
hole byte first second word =
    cond (eqb byte 35) (decimal first)
    (cond (eqb byte 37) (decimal second)
    (cond (eqb byte 64) (quoted word)
    (cond (eqb byte 126) word
    (byte ∷ []))))

unfoldable pub filled : List ℕ → (first second : ℕ) → List ℕ → List ℕ
filled [] first second word = []
filled (byte ∷ rest) first second word = hole byte first second word ++ filled rest first second word
