-- Laws of lists of one width joined one behind the other.
-- Assumes nothing.
use mathlib.Core.Path.{◌≡◌, ◌∙◌}
use mathlib.Core.List.{List, ◌++◌}
use Prim.Native.Nat.{ℕ, zero, suc, ◌+◌, ◌*◌, ◌<◌}
use native.Mathlib.Decide.{ℕ_discrete}
use native.Mathlib.Nat.{mul-suc, mul_comm}
use native.Mathlib.Omega.{arith}
use lib.Arith.{digits_lt}
use lib.ListN.{length, get_or, length-append, get_or-append}
use lib.Seq.{get_or-append-add}
use Rattle.base.specs.Build.{joined}

module _ (width : ℕ) (f : ℕ → List ℕ) (each : (i : ℕ) → length (f i) ≡ width) where
  pub length-joined : (n : ℕ) → length (joined n f) ≡ width * n
  length-joined zero = omega arith
  length-joined (suc n) = length-append (joined n f) (f n) ∙ omega (arith, length-joined n, each n, mul-suc width n)

  pub get_or-joined : (n i j : ℕ) → i < n → j < width → get_or (joined n f) (width * i + j) 0 ≡ get_or (f i) j 0
  get_or-joined zero i j h g = absurd (omega arith)
  get_or-joined (suc n) i j h g = go (get_or-joined n i j) (ℕ_discrete i n)
    where
      go : (i < n → j < width → get_or (joined n f) (width * i + j) 0 ≡ get_or (f i) j 0) → Dec (i ≡ n)
          → get_or (joined n f ++ f n) (width * i + j) 0 ≡ get_or (f i) j 0
      go before (yes e) = rw (e, ← length-joined n) (get_or-append-add (joined n f) (f n) j 0)
      go before (no q) =
          let p : i < n = omega arith in
          get_or-append (joined n f) (f n) 0 (width * i + j)
          (omega (arith, digits_lt {q = i} {m = n} {r = j} {c = width} p g, length-joined n, mul_comm width i, mul_comm width n))
          ∙ before p g
