-- The lengths of what a build works in.
-- Assumes nothing.
use Rattle.std.specs.Prelude.{ℕ}

-- A slot holds the entries of one machine: 64 rows over 16 actions. A work area has 64 of them.
abbrev pub slot_length : ℕ
slot_length = 1024

abbrev pub work_length : ℕ
work_length = 65536

-- A work area's numbers, one for each value.
abbrev pub numbers_length : ℕ
numbers_length = 1024
