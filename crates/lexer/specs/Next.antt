-- The words of a text from a position on, and the next of them.
-- Assumes nothing.
use Rattle.std.specs.Prelude.{◌≡◌, false, List, [], ◌∷◌, ℕ, ◌-◌, ◌≤◌, ◌<◌, Option, Some, None, length, get_or, take, drop}
use Rattle.grammar.specs.Words.{Word, is_blank, words_of}
use Rattle.grammar.specs.Spelling.{token_of}
use Rattle.lexer.specs.declared.Word.{Word as NextOne}

abbrev pub words_from : List ℕ → ℕ → List Word
words_from text at = words_of (drop at text)

-- Blanks are passed over.
pub record PassesBlanks (text : List ℕ) (at to : ℕ) : Type 0 where
  pub onward : at ≤ to
  pub same-words : words_from text at ≡ words_from text to
  pub solid : to < length text → is_blank (get_or text to 0) ≡ false

-- A word stands between two positions, and is the first from the one on.
pub record EndsWord (text : List ℕ) (from to : ℕ) : Type 0 where
  pub within : to ≤ length text
  pub onward : from < to
  pub first_word : words_from text from ≡ take (to - from) (drop from text) ∷ words_from text to

-- The next word's token with the position behind it; or there is no word.
pub data NextWord (text : List ℕ) (at : ℕ) : Option NextOne → Type 0 where
  word : (w : Word) (to : ℕ) → at < to → to ≤ length text → words_from text at ≡ w ∷ words_from text to → NextWord text at (Some (record { token = token_of w; end = to }))
  nothing : words_from text at ≡ [] → NextWord text at None
