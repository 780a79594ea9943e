-- The answers of the board's calls as one number of 64 bits: the number of the answer and a value, 16 bits each, lowest first; the rest is 0.
-- Assumes nothing.
use Rattle.std.specs.Prelude.{◌≡◌, Bool, [], ◌∷◌, ℕ}
use Rattle.base.specs.Fields.{pack_fields}
use Rattle.view.specs.Steps.{Reply, done, permitted, denied, input, state, changes}

-- Both are below `field_size` of crate base (crate lemondarts_laws, proofs/Answers.antt), so nothing is cut off.
abbrev pub pack_reply : (number value : ℕ) → ℕ
pack_reply number value = pack_fields (number ∷ value ∷ 0 ∷ 0 ∷ [])

-- Number 0 is done and 255 is denied; any other is the number of a refusal (docs/FORMATS.md), its value the spot.
abbrev pub packed_reply : Reply → ℕ
packed_reply done = pack_reply 0 0
packed_reply (permitted fulfilled) = pack_reply 0 fulfilled
packed_reply (denied place) = pack_reply 255 place
packed_reply (input number spot) = pack_reply number spot
packed_reply (state number) = pack_reply number 0

-- An answer's number, and whether it changes the board.
pub record AnswerIs (reply : Reply) (number : ℕ) (changed : Bool) : Type 0 where
  pub packs : number ≡ packed_reply reply
  pub tells : changed ≡ changes reply
