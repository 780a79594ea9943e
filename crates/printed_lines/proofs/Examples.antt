-- Two texts held against docs/FORMATS.md's own, by computation.
-- Assumes nothing.
use mathlib.Core.Path.{◌≡◌, refl}
use mathlib.Core.List.{[], ◌∷◌}
use Rattle.trace.specs.declared.Mode.TheVariants.{Enforced}
use Rattle.printed_lines.specs.Text.{table_text, refusal_text}

-- the three lines of the sheet of 78 bytes, examples/drop_between_charges.sheet:
--   enf 4 2
--   1 0 0 0
--   - 0 1 1
pub drop-between-charges : table_text Enforced 4 2 (1 ∷ 0 ∷ 0 ∷ 0 ∷ 255 ∷ 0 ∷ 1 ∷ 1 ∷ [])
    ≡ 101 ∷ 110 ∷ 102 ∷ 32 ∷ 52 ∷ 32 ∷ 50 ∷ 10
    ∷ 49 ∷ 32 ∷ 48 ∷ 32 ∷ 48 ∷ 32 ∷ 48 ∷ 10
    ∷ 45 ∷ 32 ∷ 48 ∷ 32 ∷ 49 ∷ 32 ∷ 49 ∷ 10 ∷ []
drop-between-charges = refl

-- `refused 7 11`: the tower of twelve nodes
pub refused-tower : refusal_text 7 11 ≡ 114 ∷ 101 ∷ 102 ∷ 117 ∷ 115 ∷ 101 ∷ 100 ∷ 32 ∷ 55 ∷ 32 ∷ 49 ∷ 49 ∷ 10 ∷ []
refused-tower = refl
