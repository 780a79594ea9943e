-- What the code has of words that are not the language's own: a number or none, a proposition.
-- Assumes nothing.
use Rattle.std.specs.Prelude.{ℕ, Option, Some, None, ◌&&◌, leb, drop}
use Rattle.grammar.specs.Words.{Word}
use Rattle.grammar.specs.Spelling.{is_number, is_proposition, value_of, whether}
use Rattle.grammar.specs.declared.Token.{Token}
use Rattle.grammar.specs.declared.Token.TheVariants.{Proposition, Number, Other}

-- The number that a word says; 100 where it says none.
abbrev pub value_or_none : Option ℕ → ℕ
value_or_none (Some n) = n
value_or_none None = 100

-- The proposition or the number that a value is, if it is one.
unfoldable pub up_to_15 : ℕ → Token
up_to_15 v = whether (leb v 15) (Proposition v) Other

unfoldable pub up_to_60 : ℕ → Token
up_to_60 v = whether (leb 1 v && leb v 60) (Number v) Other

-- The proposition or the number that a word is, if it is one: the end of `token_of`.
unfoldable pub numbered : Word → Token
numbered w = whether (is_proposition w) (Proposition (value_of (drop 1 w))) (whether (is_number w) (Number (value_of w)) Other)
