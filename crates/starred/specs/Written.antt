-- A table written out by its rows (docs/FORMATS.md, "The table").
-- Assumes nothing.
use Rattle.std.specs.Prelude.{List, [], ◌∷◌, ◌++◌, ℕ, length}
use Rattle.base.specs.Word.{word_bytes}

abbrev rows_bytes : List (List ℕ) → List ℕ
rows_bytes [] = []
rows_bytes (row ∷ rows) = row ++ rows_bytes rows

-- A table of a type, 1 enforced or 2 watched.
abbrev pub table_of : (type actions : ℕ) → (rows : List (List ℕ)) → List ℕ
table_of type actions rows = word_bytes type ++ word_bytes actions ++ word_bytes (length rows) ++ word_bytes 8 ++ rows_bytes rows
