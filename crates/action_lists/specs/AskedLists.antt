-- A list of actions that is asked about: a line of words, each the number of an action in decimal or its name. 255 is no action.
-- Assumes nothing.
use Rattle.std.specs.Prelude.{◌≡◌, Bool, true, false, cond, not, ◌&&◌, List, [], ◌∷◌, map, ℕ, ◌+◌, ◌*◌, ◌-◌, ◌≤◌, ◌<◌, min, eqb, ltb, length, get_or, take}
use Rattle.grammar.specs.Words.{Word}
use Rattle.grammar.specs.Spelling.{is_digit}
use Rattle.action_lists.specs.ActionLists.{is_name, action_named}

abbrev pub all_digits : Word → Bool
all_digits [] = true
all_digits (byte ∷ rest) = is_digit byte && all_digits rest

-- the value of digits that stand after others, whose value is known
abbrev pub digits_value : (value : ℕ) → Word → ℕ
digits_value value [] = value
digits_value value (digit ∷ rest) = digits_value (10 * value + (digit - 48)) rest

-- one byte or more, and more than one only where the first is no zero
unfoldable pub unpadded : Word → Bool
unpadded [] = false
unpadded (digit ∷ []) = true
unpadded (digit ∷ next ∷ rest) = not (eqb digit 48)

-- the value up to 254
unfoldable pub number_from : (value : ℕ) → Word → ℕ
number_from value word = cond (all_digits word && ltb (digits_value value word) 255) (digits_value value word) 255

-- the number of a name, up to 254
unfoldable pub named_of : (names : List Word) → Word → ℕ
named_of names word = cond (ltb (action_named names word) 255 && ltb (action_named names word) (length names)) (action_named names word) 255

-- The action that a word is.
unfoldable pub asked_of : (names : List Word) → Word → ℕ
asked_of names word = cond (is_name word) (named_of names word) (cond (unpadded word) (number_from 0 word) 255)

-- The actions of the words, as many as there is room for, stand at the front of a lent area.
pub record ReadsList (names words : List Word) (old new : List ℕ) (count : ℕ) : Type 0 where
  pub sized : length new ≡ length old
  pub counted : count ≡ min (length words) (length old)
  pub read : take count new ≡ map (asked_of names) (take count words)

-- The place of the first number that is not below a bound; the length where all are.
pub record FirstOutside (list : List ℕ) (actions place : ℕ) : Type 0 where
  pub within : place ≤ length list
  pub below : (j : ℕ) → j < place → get_or list j 0 < actions
  pub outside : place < length list → actions ≤ get_or list place 0
