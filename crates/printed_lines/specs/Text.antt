-- The text of a table and of a refusal (docs/FORMATS.md, "The printed text"), as bytes: words and numbers are separated by single blanks, and
-- each line ends with a newline. Assumes nothing.
use Rattle.std.specs.Prelude.{cond, List, [], ◌∷◌, ◌++◌, ℕ, zero, suc, ◌*◌, eqb, length, get_or, take, drop}
use Rattle.text_writer.specs.Decimals.{decimal}
use Rattle.trace.specs.declared.Mode.{Mode}
use Rattle.trace.specs.declared.Mode.TheVariants.{Enforced, Watched}

abbrev pub newline : List ℕ
newline = 10 ∷ []

abbrev pub blank : List ℕ
blank = 32 ∷ []

abbrev pub dash : List ℕ
dash = 45 ∷ []

-- `enf` and `mon`
abbrev pub mode_word : Mode → List ℕ
mode_word Enforced = 101 ∷ 110 ∷ 102 ∷ []
mode_word Watched = 109 ∷ 111 ∷ 110 ∷ []

-- `refused`
abbrev pub refused : List ℕ
refused = 114 ∷ 101 ∷ 102 ∷ 117 ∷ 115 ∷ 101 ∷ 100 ∷ []

abbrev pub spaced : ℕ → List ℕ
spaced n = blank ++ decimal n

-- the two numbers that end a first line
abbrev pub counts : ℕ → ℕ → List ℕ
counts first second = spaced first ++ (spaced second ++ newline)

-- an entry of a row: `-` for 255, else the next row's number
abbrev pub entry_text : ℕ → List ℕ
entry_text e = cond (eqb e 255) dash (decimal e)

-- entry k of a row: the first stands at the line's start, each other behind a blank
abbrev pub next_text : ℕ → ℕ → List ℕ
next_text zero e = entry_text e
next_text (suc k) e = blank ++ entry_text e

-- the first n entries of a row
abbrev pub entries_text : List ℕ → ℕ → List ℕ
entries_text row zero = []
entries_text row (suc n) = entries_text row n ++ next_text n (get_or row n 0)

abbrev pub row_line : List ℕ → List ℕ
row_line row = entries_text row (length row) ++ newline

-- the first n rows, each of as many entries as there are actions
abbrev pub row_lines : (actions n : ℕ) → List ℕ → List ℕ
row_lines actions zero entries = []
row_lines actions (suc n) entries = row_lines actions n entries ++ row_line (take actions (drop (n * actions) entries))

-- A table: its type, count of actions and count of rows; then one line a row.
abbrev pub table_text : Mode → (actions rows : ℕ) → List ℕ → List ℕ
table_text mode actions rows entries = mode_word mode ++ (counts actions rows ++ row_lines actions rows entries)

-- A refusal: its number and its spot.
abbrev pub refusal_text : (number spot : ℕ) → List ℕ
refusal_text number spot = refused ++ counts number spot
