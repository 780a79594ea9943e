-- Fields of 16 bits in one number.
-- Assumes nothing.
use Rattle.std.specs.Prelude.{List, [], ◌∷◌, ℕ, zero, suc, ◌+◌, ◌*◌, ◌/◌, ◌%◌}

-- A field has 16 bits: it is below this.
abbrev pub field_size : ℕ
field_size = 65536

-- Fields as the digits of one number, lowest first, and the field at a place of a number. What is below `field_size` is read back as it was
-- (proofs/Fields.antt).
abbrev pub pack_fields : List ℕ → ℕ
pack_fields [] = 0
pack_fields (field ∷ rest) = field % field_size + field_size * pack_fields rest

abbrev pub field_in : ℕ → ℕ → ℕ
field_in zero packed = packed % field_size
field_in (suc i) packed = field_in i (packed / field_size)
