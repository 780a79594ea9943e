-- The action list: a line of words, each the propositions of an action (p0+p2, or - for none), after its name and `=` where it has one (gas=p4).
-- Assumes nothing.
use Rattle.std.specs.Prelude.{◌≡◌, Bool, true, false, cond, not, ◌&&◌, List, [], ◌∷◌, ℕ, suc, ◌+◌, ◌^◌, ◌≤◌, ◌<◌, eqb, leb, ltb, length, get_or, take, drop, Option, Some, None, Result, Ok, Err}
use Rattle.std.specs.Int.Bits.{bit_or}
use Rattle.fields.specs.Fields.{split_by, between}
use Rattle.grammar.specs.Words.{Word, words_of}
use Rattle.grammar.specs.Spelling.{is_digit, is_plain, same, token_of}
use Rattle.grammar.specs.declared.Token.{Token}
use Rattle.grammar.specs.declared.Token.TheVariants.{Watch, Enforce, Now, Holds, Count, Not, And, Or, Eventually, Always, Before, After, Fulfilling, Ignoring, True, False, Proposition, Number, Other}
use Rattle.action_lists.specs.declared.ListError.{ListError}
use Rattle.action_lists.specs.declared.ListError.TheVariants.{Nothing, TooMany, WrongAt, DoubledAt}

-- the number of a proposition; 100 for any other word
unfoldable pub proposition_of : Token → ℕ
proposition_of (Proposition p) = p
proposition_of Watch = 100
proposition_of Enforce = 100
proposition_of Now = 100
proposition_of Holds = 100
proposition_of Count = 100
proposition_of Not = 100
proposition_of And = 100
proposition_of Or = 100
proposition_of Eventually = 100
proposition_of Always = 100
proposition_of Before = 100
proposition_of After = 100
proposition_of Fulfilling = 100
proposition_of Ignoring = 100
proposition_of True = 100
proposition_of False = 100
proposition_of (Number k) = 100
proposition_of Other = 100

-- a set with the propositions p0 to p15 that words are
unfoldable pub with_all : (set : ℕ) → List Word → Option ℕ
with_all set [] = Some set
with_all set (word ∷ words) = cond (leb (proposition_of (token_of word)) 15) (with_all (bit_or set (2 ^ proposition_of (token_of word))) words) None

-- The propositions of an action: `-`, or propositions joined by `+`.
unfoldable pub set_of : Word → Option ℕ
set_of word = cond (same word (45 ∷ [])) (Some 0) (with_all 0 (split_by 43 word))

-- A name: small letters and digits alone, a letter first, and not `p` with a digit after it, as propositions begin.
abbrev pub is_letter : ℕ → Bool
is_letter byte = leb 97 byte && leb byte 122

unfoldable pub all_plain : Word → Bool
all_plain [] = true
all_plain (byte ∷ rest) = is_plain byte && all_plain rest

unfoldable pub is_name : Word → Bool
is_name word = is_letter (get_or word 0 0) && (not (eqb (get_or word 0 0) 112 && is_digit (get_or word 1 0)) && all_plain word)

-- What stands before the first `=` of a word: all of it where there is none.
unfoldable pub name_of : Word → Word
name_of word = get_or (split_by 61 word) 0 []

pub record NameEnds (word : Word) (end : ℕ) : Type 0 where
  pub within : end ≤ length word
  pub name : take end word ≡ name_of word

-- An action: its propositions, after its name where there is an `=`.
unfoldable pub action_of : Word → Option ℕ
action_of word =
    cond (eqb (length (name_of word)) (length word)) (set_of word)
    (cond (is_name (name_of word)) (set_of (drop (length (name_of word) + 1) word)) None)

-- The number of the first word that has a name, from 0; the number of words where none has it.
unfoldable pub action_named : List Word → Word → ℕ
action_named [] name = 0
action_named (word ∷ words) name = cond (same (name_of word) name) 0 (suc (action_named words name))

-- The name of the action that a word is; nothing where it has none.
unfoldable pub own_name : Word → Word
own_name word = cond (is_name (name_of word)) (name_of word) []

pub record NameTakes (word : Word) (end : ℕ) : Type 0 where
  pub within : end ≤ length word
  pub name : take end word ≡ own_name word

abbrev pub name_at : List Word → ℕ → Word
name_at words number = own_name (get_or words number [])

pub record NameStands (list : List ℕ) (number from to : ℕ) : Type 0 where
  pub onward : from ≤ to
  pub within : to ≤ length list
  pub name : between list from to ≡ name_at (words_of list) number

-- The word of a number has a name, and the first word with that name is an earlier one.
abbrev pub is_doubled : List Word → (word : Word) → (number : ℕ) → Bool
is_doubled words word number = is_name (name_of word) && ltb (action_named words (name_of word)) number

-- The words before a number are actions, with these sets, and none has the name of an earlier one.
pub record Actions (words : List Word) (sets : List ℕ) (count : ℕ) : Type 0 where
  pub there : count ≤ length words
  pub each : (j : ℕ) → j < count → action_of (get_or words j []) ≡ Some (get_or sets j 0)
  pub apart : (j : ℕ) → j < count → is_doubled words (get_or words j []) j ≡ false

-- How a list is read: 1 to 16 actions; no words; more than 16; a word that is no action; an action with the name of an earlier one.
abbrev pub ListReads : List Word → (sets : List ℕ) → Result ℕ ListError → Type 0
ListReads words sets (Ok n) = (1 ≤ n) × (n ≤ 16) × (length words ≡ n) × Actions words sets n
ListReads words sets (Err Nothing) = length words ≡ 0
ListReads words sets (Err TooMany) = (16 < length words) × Actions words sets 16
ListReads words sets (Err (WrongAt k)) = (k < 16) × Actions words sets k × (k < length words) × (action_of (get_or words k []) ≡ None)
ListReads words sets (Err (DoubledAt k)) =
    (k < 16) × Actions words sets k × (k < length words) × ((set : ℕ) × (action_of (get_or words k []) ≡ Some set)) × (is_doubled words (get_or words k []) k ≡ true)

-- Sets are kept in the first 16 numbers of a lent area.
pub record ReadsActions (words : List Word) (old new : List ℕ) (listed : Result ℕ ListError) : Type 0 where
  pub sized : length new ≡ length old
  pub unchanged : drop 16 new ≡ drop 16 old
  pub read : ListReads words new listed
