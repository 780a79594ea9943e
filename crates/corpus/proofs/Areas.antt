-- An area that is one value throughout, read from the front.
-- Assumes nothing.
use Rattle.std.proofs.Common.{◌≡◌, ℕ, ◌+◌, ◌<◌, ◌≤◌, List, length, get_or, replicate, sym, ◌∙◌, subst, arith, ext_get_or}
use native.Mathlib.Decide.{ℕ_discrete}
use lib.ListN.{length-replicate, get_or-replicate}

-- the first k are this value
pub record Alike (area : List ℕ) (value k : ℕ) : Type 0 where
  pub within : k ≤ length area
  pub each : (j : ℕ) → j < k → get_or area j 0 ≡ value

pub alike-none : (area : List ℕ) (value : ℕ) → Alike area value 0
alike-none area value = record { within = omega arith; each = λ j h. absurd (omega arith) }

pub alike-more : {area : List ℕ} {value k : ℕ} → Alike area value k → k < length area → get_or area k 0 ≡ value → Alike area value (k + 1)
alike-more {area} {value} {k} s h e = record { within = omega arith; each = each }
  where
    each : (j : ℕ) → j < k + 1 → get_or area j 0 ≡ value
    each j g = elim (ℕ_discrete j k) [ yes p ↦ subst (λ (i : ℕ). get_or area i 0 ≡ value) (sym p) e | no q ↦ s.each j (omega arith) ]

pub alike_all : {area : List ℕ} {value k : ℕ} → Alike area value k → length area ≤ k → area ≡ replicate (length area) value
alike_all {area} {value} {k} s h =
    ext_get_or 0 area (replicate (length area) value) (sym (length-replicate (length area) value)) at
  where
    at : (j : ℕ) → j < length area → get_or area j 0 ≡ get_or (replicate (length area) value) j 0
    at j g = s.each j (omega arith) ∙ sym (get_or-replicate (length area) j value 0 g)
