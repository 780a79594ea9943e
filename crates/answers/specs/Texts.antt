-- The answers of the reader of rule texts as numbers.
-- Assumes nothing.
use Rattle.std.specs.Prelude.{ℕ}
use Rattle.parser.specs.Calling.{TextAnswer, written, refused}
use Rattle.answers.specs.Numbers.{pack}

-- For a sheet 0, its length in bytes, its actions and its nodes; for a refusal its number and spot.
abbrev pub packed_text : TextAnswer → ℕ
packed_text (written bytes actions nodes) = pack 0 bytes actions nodes
packed_text (refused number spot) = pack number spot 0 0
