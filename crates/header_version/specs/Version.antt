-- The version of the calls.
-- Assumes nothing.
use Rattle.std.specs.Prelude.{ℕ, ◌+◌, ◌*◌}

-- 4.7.0 as one number, as LEMONDARTS_VERSION_NUMBER of include/lemondarts.h has it.
abbrev pub version_number : ℕ
version_number = 4 * 10000 + 7 * 100 + 0
