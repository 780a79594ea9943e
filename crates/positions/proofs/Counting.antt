-- The words of a text by their numbers.
-- Assumes nothing.
use mathlib.Core.Path.{◌≡◌, sym, ap, ◌∙◌}
use mathlib.Core.List.{List, [], ◌∷◌}
use Prim.Native.Nat.{ℕ, zero, suc, ◌-◌, ◌≤◌, ◌<◌}
use native.Mathlib.Decide.{dec_lt}
use native.Mathlib.Omega.{arith}
use borrow.Author.Tests.{lt-ltb, le-ltb}
use lib.Dec.{ltb}
use lib.ListN.{length, get_or, get_or-eq_default}
use Rattle.fields.specs.Fields.{between}
use Rattle.grammar.specs.Words.{Word, words_of, Parted, done, blank, word}
use Rattle.grammar.proofs.Parted.{parted}
use Rattle.lexer.specs.Next.{words_from, PassesBlanks, EndsWord}
use Rattle.lexer.proofs.Scanning.{no_words}

-- A scan that has passed the blanks from `at` on: the words are none, or one and those behind it.
module _ {text : List ℕ} {at from : ℕ} (p : PassesBlanks text at from) where
  pub none_left : length text ≤ from → words_from text at ≡ []
  none_left h = p.same-words ∙ no_words text from h

  pub one_left : {to : ℕ} → EndsWord text from to → words_from text at ≡ between text from to ∷ words_from text to
  one_left e = p.same-words ∙ e.first_word

-- The word of a number, of those that are left.
pub none-at : (n : ℕ) {words : List Word} → words ≡ [] → get_or words n [] ≡ []
none-at n {words} e = get_or-eq_default words [] (omega (arith, ap length e))

tail_at : (first : Word) (rest : List Word) (n : ℕ) → 0 < n → get_or (first ∷ rest) n [] ≡ get_or rest (n - 1) []
tail_at first rest zero h = absurd (omega arith)
tail_at first rest (suc n) h = let e : suc n - 1 ≡ n = omega arith in rw e

module _ {words rest : List Word} {first : Word} (e : words ≡ first ∷ rest) where
  pub first-at : get_or words 0 [] ≡ first
  first-at = rw e

  pub later-at : (n : ℕ) → 0 < n → get_or words n [] ≡ get_or rest (n - 1) []
  later-at n h = rw e (tail_at first rest n h)

-- a word has a byte or more
some_byte : {text : List ℕ} {words : List Word} → Parted text words → (n : ℕ) → n < length words → 0 < length (get_or words n [])
some_byte done n h = absurd (omega arith)
some_byte (blank e p) n h = some_byte p n h
some_byte (word s d p) zero h = omega arith
some_byte (word s d p) (suc n) h = some_byte p n (omega arith)

-- There is a word of a number exactly where that word has bytes.
module _ (text : List ℕ) (number : ℕ) where
  pub word-there : 0 < length (get_or (words_of text) number []) → number < length (words_of text)
  word-there h =
      elim (dec_lt number (length (words_of text))) [
        | yes p ↦ p
        | no q ↦ absurd (let z : length (get_or (words_of text) number []) ≡ 0 = ap length (get_or-eq_default (words_of text) [] (omega arith)) in omega arith)
      ]

  pub word-missing : length (get_or (words_of text) number []) ≡ 0 → length (words_of text) ≤ number
  word-missing h =
      elim (dec_lt number (length (words_of text))) [
        | yes p ↦ absurd (omega (arith, some_byte (parted text) number p))
        | no q ↦ omega arith
      ]

  pub whether-there : ltb 0 (length (get_or (words_of text) number [])) ≡ ltb number (length (words_of text))
  whether-there =
      elim (dec_lt 0 (length (get_or (words_of text) number []))) [
        | yes p ↦ lt-ltb 0 _ p ∙ sym (lt-ltb number _ (word-there p))
        | no q ↦ le-ltb 0 (length (get_or (words_of text) number [])) (omega arith) ∙ sym (le-ltb number _ (word-missing (omega arith)))
      ]
