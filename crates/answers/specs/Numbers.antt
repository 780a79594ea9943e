-- Answers as one number of 64 bits: the number of the answer, a value, a count of actions and a count of rows, 16 bits each, lowest first.
-- Assumes nothing.
use Rattle.std.specs.Prelude.{[], ◌∷◌, ℕ}
use Rattle.base.specs.Fields.{pack_fields}
use Rattle.table.specs.Answer.{Answer, accepted, refused}

-- Every field of what the calls answer is below `field_size` of crate base (crate lemondarts_laws, proofs/Answers.antt, Spots.antt), so nothing is cut off.
abbrev pub pack : (number value actions rows : ℕ) → ℕ
pack number value actions rows = pack_fields (number ∷ value ∷ actions ∷ rows ∷ [])

-- The answer of the loader, of compiling and of joining: for a table its type, actions and rows; for a refusal its number and spot.
abbrev pub packed_answer : Answer → ℕ
packed_answer (accepted type actions rows) = pack 0 type actions rows
packed_answer (refused number spot) = pack number spot 0 0
