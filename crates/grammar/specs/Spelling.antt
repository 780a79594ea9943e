-- How the words of the language are spelled, and which of them a word is. `token-spelled` (proofs/Tokens.antt): a word that is one of them is
-- spelled so; and each of them is found by its spelling.
-- Assumes nothing.
use Rattle.std.specs.Prelude.{Bool, true, false, cond, ◌&&◌, ◌||◌, List, [], ◌∷◌, ℕ, ◌+◌, ◌*◌, ◌-◌, ◌/◌, ◌%◌, eqb, leb, ltb, length, get_or, drop}
use Prim.Native.String.{String, [] as no-letter, ◌∷◌ as ◌before◌}
use Prim.Native.Char.{code}
use Rattle.grammar.specs.Words.{Word}
use Rattle.grammar.specs.declared.Token.{Token}
use Rattle.grammar.specs.declared.Token.TheVariants.{Watch, Enforce, Now, Holds, Count, Not, And, Or, Eventually, Always, Before, After, Fulfilling, Ignoring, True, False, Proposition, Number, Other}

-- the bytes of a quoted word
abbrev pub word : String → Word
word no-letter = []
word (letter before rest) = code letter ∷ word rest

-- The word of a number below 100: decimal, without leading zero. That of a proposition: p and its number.
abbrev pub number_word : ℕ → Word
number_word n = cond (ltb n 10) ((48 + n) ∷ []) ((48 + n / 10) ∷ (48 + n % 10) ∷ [])

abbrev pub proposition_word : ℕ → Word
proposition_word p = 112 ∷ number_word p

-- two words are the same
abbrev pub same : Word → Word → Bool
same [] [] = true
same [] (b ∷ w) = false
same (a ∷ v) [] = false
same (a ∷ v) (b ∷ w) = eqb a b && same v w

-- The number that one or two digits say, without leading zero; 100 for any other word.
abbrev pub is_digit : ℕ → Bool
is_digit byte = leb 48 byte && leb byte 57

abbrev pub one_digit : ℕ → ℕ
one_digit a = cond (is_digit a) (a - 48) 100

abbrev pub two_digits : ℕ → ℕ → ℕ
two_digits a b = cond (is_digit a && (ltb 48 a && is_digit b)) (10 * (a - 48) + (b - 48)) 100

abbrev pub value_of : Word → ℕ
value_of w = cond (eqb (length w) 1) (one_digit (get_or w 0 0)) (cond (eqb (length w) 2) (two_digits (get_or w 0 0) (get_or w 1 0)) 100)

-- A lower-case letter or a digit: the bytes of the language's words.
abbrev pub is_plain : ℕ → Bool
is_plain byte = is_digit byte || (leb 97 byte && leb byte 122)

-- 1 to 60; p and 0 to 15
abbrev pub is_number : Word → Bool
is_number w = leb 1 (value_of w) && leb (value_of w) 60

abbrev pub is_proposition : Word → Bool
is_proposition w = eqb (get_or w 0 0) 112 && leb (value_of (drop 1 w)) 15

-- a token where a test holds, else what the others say
unfoldable pub whether : Bool → Token → Token → Token
whether true token rest = token
whether false token rest = rest

-- The language's own words: how each is spelled.
pub record Keyword : Type 0 where
  pub letters : Word
  pub token : Token

abbrev pub keyword : String → Token → Keyword
keyword letters token = record { letters = word letters; token = token }

abbrev pub keywords : List Keyword
keywords =
    keyword "watch" Watch
    ∷ keyword "enforce" Enforce
    ∷ keyword "now" Now
    ∷ keyword "holds" Holds
    ∷ keyword "count" Count
    ∷ keyword "not" Not
    ∷ keyword "and" And
    ∷ keyword "or" Or
    ∷ keyword "eventually" Eventually
    ∷ keyword "always" Always
    ∷ keyword "before" Before
    ∷ keyword "after" After
    ∷ keyword "fulfilling" Fulfilling
    ∷ keyword "ignoring" Ignoring
    ∷ keyword "true" True
    ∷ keyword "false" False
    ∷ []

-- the token of the first that a word is, else what the others say
abbrev pub token_in : List Keyword → Word → Token → Token
token_in [] w fallback = fallback
token_in (k ∷ rest) w fallback = whether (same w k.letters) k.token (token_in rest w fallback)

-- Which of the language's words a word is.
unfoldable pub token_of : Word → Token
token_of w = token_in keywords w (whether (is_proposition w) (Proposition (value_of (drop 1 w))) (whether (is_number w) (Number (value_of w)) Other))
