-- A field of a packed number is the one that was packed there.
-- Assumes nothing.
use mathlib.Core.Path.{◌≡◌, ◌∙◌, ap}
use mathlib.Core.List.{List, [], ◌∷◌}
use Prim.Native.Nat.{ℕ, zero, suc, ◌/◌, ◌<◌}
use native.Mathlib.Omega.{arith}
use lib.ListN.{length, get_or}
use Rattle.base.specs.Fields.{field_size, pack_fields, field_in}

pub field_back : (i : ℕ) (fields : List ℕ) → i < length fields → get_or fields i 0 < field_size → field_in i (pack_fields fields) ≡ get_or fields i 0
field_back i [] l h = absurd (omega arith)
field_back zero (field ∷ rest) l h = omega arith
field_back (suc i) (field ∷ rest) l h = ap (field_in i) behind ∙ field_back i rest (omega arith) h
  where
    behind : pack_fields (field ∷ rest) / field_size ≡ pack_fields rest
    behind = omega arith
