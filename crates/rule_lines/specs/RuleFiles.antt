-- The rules of a file: its lines up to one that has the one word `---`, or to the end.
-- Assumes nothing.
use Rattle.std.specs.Prelude.{◌≡◌, Bool, true, false, cond, ◌&&◌, List, [], ◌∷◌, ℕ, ◌+◌, ◌-◌, ◌≤◌, ◌<◌, min, length, get_or}
use Rattle.fields.specs.Fields.{fields_from, EndsField}
use Rattle.grammar.specs.Words.{is_blank, words_of}
use Rattle.grammar.specs.Spelling.{word, same}

-- there is no such word
abbrev pub no_word : List ℕ → Bool
no_word [] = true
no_word (byte ∷ rest) = false

-- A line separates two rules: its first word is `---`, and there is no second one.
unfoldable pub is_separator : List ℕ → Bool
is_separator line = same (get_or (words_of line) 0 []) (word "---") && no_word (get_or (words_of line) 1 [])

-- the newline of a line that others follow
abbrev pub newline_before : List (List ℕ) → ℕ
newline_before [] = 0
newline_before (line ∷ rest) = 1

-- How many bytes the lines of a rule are, with their newlines.
unfoldable pub rule_length : List (List ℕ) → ℕ
rule_length [] = 0
rule_length (line ∷ rest) = cond (is_separator line) 0 (length line + (newline_before rest + rule_length rest))

pub record RuleEnds (file : List ℕ) (from to : ℕ) : Type 0 where
  pub onward : from ≤ to
  pub within : to ≤ length file
  pub lines : to ≡ from + rule_length (fields_from 10 file from)

-- The line at a position ends here, and the next one begins after its newline, or with the end.
pub record NextLine (file : List ℕ) (at to : ℕ) : Type 0 where
  pub end : ℕ
  pub ends : EndsField 10 file at end
  pub next : to ≡ min (end + 1) (length file)

-- The last word of a text ends here: from here on there are blanks, and the byte before is none.
pub record Trims (text : List ℕ) (end : ℕ) : Type 0 where
  pub within : end ≤ length text
  pub blanks : (k : ℕ) → end ≤ k → k < length text → is_blank (get_or text k 0) ≡ true
  pub solid : 0 < end → is_blank (get_or text (end - 1) 0) ≡ false
