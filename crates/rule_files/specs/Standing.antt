-- What stands in a text.
-- Assumes nothing.
use Rattle.std.specs.Prelude.{◌≡◌, List, ◌++◌, ℕ, ◌<◌, length}

-- a part of a text, which may be empty
pub record StandsIn (text part : List ℕ) : Type 0 where
  pub before : List ℕ
  pub behind : List ℕ
  pub whole : text ≡ before ++ (part ++ behind)

-- a part of a text that is not empty
pub record IsWordIn (text word : List ℕ) : Type 0 where
  pub stands : StandsIn text word
  pub some : 0 < length word

-- a word that is not empty, of what is left of a text: something may stand before it, and the rest is left behind it
pub record WordThen (left word rest : List ℕ) : Type 0 where
  pub blanks : List ℕ
  pub whole : left ≡ blanks ++ (word ++ rest)
  pub some : 0 < length word

-- what is left of a text
pub record EndsWith (text rest : List ℕ) : Type 0 where
  pub before : List ℕ
  pub whole : text ≡ before ++ rest
