-- A text is parted into its words, and in one way only.
-- Assumes nothing.
use mathlib.Core.Path.{◌≡◌, refl, ◌∙◌, ap}
use mathlib.Core.Bool.{Bool, true, false, cond}
use mathlib.Core.List.{List, [], ◌∷◌, ◌++◌}
use Prim.Native.Nat.{ℕ}
use Rattle.grammar.specs.Words.{Word, is_blank, with_byte, words_of, Solid, Ended, Parted, done, blank, word}

pub blank-ahead : (byte : ℕ) (rest : List ℕ) → is_blank byte ≡ true → words_of (byte ∷ rest) ≡ words_of rest
blank-ahead byte rest e = rw e

-- a word's byte by itself, at a blank or at the end
alone : (byte : ℕ) (rest : List ℕ) (words : List Word) → Ended rest → with_byte byte rest words ≡ (byte ∷ []) ∷ words
alone byte [] words d = refl
alone byte (next ∷ rest) words d = rw d

pub word-ahead : (byte : ℕ) (more rest : List ℕ) → Solid (byte ∷ more) → Ended rest
    → words_of ((byte ∷ more) ++ rest) ≡ (byte ∷ more) ∷ words_of rest
word-ahead byte [] rest s d = rw s.0 (alone byte rest (words_of rest) d)
word-ahead byte (next ∷ more) rest s d = rw (s.0, word-ahead next more rest s.1 d, s.1.0)

-- a byte before a text that is parted
word_byte : {rest : List ℕ} {words : List Word} (byte : ℕ) → is_blank byte ≡ false → Parted rest words
    → Parted (byte ∷ rest) (with_byte byte rest words)
word_byte byte f done = word (f, tt) tt done
word_byte byte f (blank e p) = rw e (word {more = []} (f, tt) e (blank e p))
word_byte byte f (word s d p) = rw s.0 (word (f, s) d p)

any-byte : {rest : List ℕ} {words : List Word} (byte : ℕ) (b : Bool) → is_blank byte ≡ b → Parted rest words
    → Parted (byte ∷ rest) (cond (is_blank byte) words (with_byte byte rest words))
any-byte byte true e p = rw e (blank e p)
any-byte byte false e p = rw e (word_byte byte e p)

pub parted : (text : List ℕ) → Parted text (words_of text)
parted [] = done
parted (byte ∷ rest) = any-byte byte (is_blank byte) refl (parted rest)

pub words-only : {text : List ℕ} {words : List Word} → Parted text words → words_of text ≡ words
words-only done = refl
words-only (blank {byte} {rest} e p) = blank-ahead byte rest e ∙ words-only p
words-only (word {byte} {more} {rest} s d p) = word-ahead byte more rest s d ∙ ap ((byte ∷ more) ∷◌) (words-only p)
