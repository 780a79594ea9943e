-- The words of a text: its runs of bytes other than space and newline. `parted` and `words-only` (proofs/Parted.antt) say the same in plain statements.
-- Assumes nothing.
use Rattle.std.specs.Prelude.{◌≡◌, Bool, true, false, cond, ◌||◌, List, [], ◌∷◌, ◌++◌, ℕ, eqb}

abbrev pub Word : Type 0
Word = List ℕ

-- space and newline
abbrev pub is_blank : ℕ → Bool
is_blank byte = eqb byte 32 || eqb byte 10

-- a byte in front of the first word
abbrev pub lengthen : ℕ → List Word → List Word
lengthen byte [] = (byte ∷ []) ∷ []
lengthen byte (word ∷ words) = (byte ∷ word) ∷ words

-- a word's byte before the rest of the text, whose words are known: it is a word by itself where the rest begins with a blank or is empty
abbrev pub with_byte : ℕ → List ℕ → List Word → List Word
with_byte byte [] words = (byte ∷ []) ∷ words
with_byte byte (next ∷ rest) words = cond (is_blank next) ((byte ∷ []) ∷ words) (lengthen byte words)

abbrev pub words_of : List ℕ → List Word
words_of [] = []
words_of (byte ∷ rest) = cond (is_blank byte) (words_of rest) (with_byte byte rest (words_of rest))

-- A run of bytes that are no blanks, and a text that does not go on with such a byte.
abbrev pub Solid : List ℕ → Type 0
Solid [] = Unit {0}
Solid (byte ∷ rest) = (is_blank byte ≡ false) × Solid rest

abbrev pub Ended : List ℕ → Type 0
Ended [] = Unit {0}
Ended (byte ∷ rest) = is_blank byte ≡ true

-- A text and its words, in plain statements: blanks are passed over, and a word is a run of one byte or more that ends at a blank or with the text.
pub data Parted : List ℕ → List Word → Type 0 where
  done : Parted [] []
  blank : {byte : ℕ} {rest : List ℕ} {words : List Word} → is_blank byte ≡ true → Parted rest words → Parted (byte ∷ rest) words
  word : {byte : ℕ} {more rest : List ℕ} {words : List Word} → Solid (byte ∷ more) → Ended rest → Parted rest words
      → Parted ((byte ∷ more) ++ rest) ((byte ∷ more) ∷ words)
