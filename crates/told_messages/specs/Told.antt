-- What an operator is told: the messages of the catalogue, one after the other.
-- Assumes nothing.
use Rattle.std.specs.Prelude.{Bool, true, false, cond, List, [], ◌∷◌, ◌++◌, ℕ, zero, suc, ◌+◌, min, get_or}
use Rattle.grammar.specs.declared.Category.{Category}
use Rattle.grammar.specs.declared.Category.TheVariants.{Text, Watched, Enforced, Formula, Number, End}
use Rattle.messages.specs.Message.{filled}
use Rattle.catalogue.specs.Catalogue.{refused_line, rule_number, line_and_word, rule_begins, watched_comes, enforced_comes, formula_comes, number_comes, nothing_comes, named_word, wrong_action, action_form, name_form, wrong_length, wrong_counts, wrong_areas, unknown_kind, wrong_field, wrong_type, long_bound, node_values, node_rows, wrong_listed, listed_numbers, listed_names, denied_at, action_number, action_name, denied_word, message_of}
use Rattle.rule_messages.specs.Misfits.{any_between}
use Rattle.told_messages.specs.Misfits.{misfit_text, strange_text}

-- the line of a refusal: its number and its spot
abbrev pub refused_text : (number spot : ℕ) → List ℕ
refused_text number spot = filled refused_line number spot []

-- a rule by its number, where there are several
unfoldable pub rule_text : ℕ → List ℕ
rule_text zero = []
rule_text (suc rule) = filled rule_number (suc rule) 0 []

-- a message about a rule
abbrev pub of_rule_text : (rule message first second : ℕ) → List ℕ
of_rule_text rule message first second = rule_text rule ++ filled (message_of message) first second []

-- where a word stands: its line and its number in the rule, each from 1
abbrev pub place_text : (rule line number : ℕ) → List ℕ
place_text rule line number = rule_text rule ++ filled line_and_word line number []

-- a message about a word of a rule
abbrev pub of_word_text : (rule line number message : ℕ) → List ℕ → List ℕ
of_word_text rule line number message word = place_text rule line number ++ filled (message_of message) 0 0 word

-- what comes at a place
unfoldable pub expected_message : Category → List ℕ
expected_message Text = rule_begins
expected_message Watched = watched_comes
expected_message Enforced = enforced_comes
expected_message Formula = formula_comes
expected_message Number = number_comes
expected_message End = nothing_comes

-- A message with a word, nothing where there is no word.
unfoldable pub with_word : (message : List ℕ) → List ℕ → List ℕ
with_word message [] = []
with_word message (byte ∷ rest) = filled message 0 0 (byte ∷ rest)

unfoldable pub is_there : List ℕ → Bool
is_there [] = false
is_there (byte ∷ rest) = true

-- 32: where the word stands, why it does not fit, what comes there; and where it is the name of an action, what the action list has for it
abbrev pub unreadable_text : (rule line number : ℕ) (word : List ℕ) → Category → (listed : List ℕ) → List ℕ
unreadable_text rule line number word expected listed =
    (place_text rule line number ++ filled (misfit_text word expected (is_there listed)) 0 0 word)
    ++ (filled (expected_message expected) 0 0 [] ++ with_word named_word listed)

-- 2: a word of the action list is no action
abbrev pub wrong_action_text : (number : ℕ) (word : List ℕ) → List ℕ
wrong_action_text number word =
    filled wrong_action number 0 word ++ (filled (strange_text word) 0 0 word ++ (filled action_form 0 0 [] ++ filled (cond (any_between 61 61 word) name_form nothing_comes) 0 0 []))

-- 1 to 9: what is refused of a sheet
abbrev pub sheet_messages : List (List ℕ)
sheet_messages = nothing_comes ∷ wrong_length ∷ wrong_counts ∷ wrong_areas ∷ unknown_kind ∷ wrong_field ∷ wrong_type ∷ long_bound ∷ node_values ∷ node_rows ∷ []

abbrev pub sheet_text : (number spot : ℕ) → List ℕ
sheet_text number spot = filled (get_or sheet_messages number []) spot 0 []

-- 12: a word of a list is no action of so many, which an action list may name
abbrev pub wrong_listed_text : (number : ℕ) (word : List ℕ) (actions : ℕ) (list : List ℕ) → List ℕ
wrong_listed_text number word actions list =
    filled wrong_listed number 0 word ++ (filled (strange_text word) 0 0 word ++ filled (cond (is_there list) listed_names listed_numbers) actions 0 list)

-- a denial: its place and node, the action with its name, if it has one, and the word of the list
abbrev pub denied_text : (place node action : ℕ) (name : List ℕ) → List ℕ
denied_text place node action name =
    filled denied_at place node [] ++ (filled action_number action 0 [] ++ (with_word action_name name ++ filled denied_word (min (place + 1) 999999) place []))
