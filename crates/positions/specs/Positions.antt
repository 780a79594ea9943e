-- Where the words of a text stand.
-- Assumes nothing.
use Rattle.std.specs.Prelude.{◌≡◌, List, [], ℕ, ◌≤◌, length, get_or}
use Rattle.fields.specs.Fields.{between}
use Rattle.grammar.specs.Words.{words_of}

-- A word stands between two positions: the one of this number, from 0, or nothing where there is none.
pub record WordAt (text : List ℕ) (number from to : ℕ) : Type 0 where
  pub onward : from ≤ to
  pub within : to ≤ length text
  pub word : between text from to ≡ get_or (words_of text) number []
