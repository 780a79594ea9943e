-- What the operators say of a sequence, by its first action and the rest (the residual): first fulfilment, up to it, what follows it, the wait.
-- Assumes nothing.
use mathlib.Core.Path.{◌≡◌, refl}
use mathlib.Core.Bool.{Bool, true, false}
use mathlib.Core.List.{List, [], ◌∷◌}
use mathlib.Core.Option.{Option, none, some}
use Prim.Native.Nat.{ℕ, suc}
use lib.Dec.{leb-zero, leb-suc-zero, leb-suc-suc}
use lib.ListN.{length}
use Rattle.policy.specs.Operators.{Property, one_more, first, up_to, following}
use Rattle.policy.specs.Rule.{late_trips, fulfilling_trips}

-- fulfilled by the empty prefix, or not yet
pub first-now : (P : Property) (w : List ℕ) → P [] ≡ true → first P w ≡ some 0
first-now P [] e = rw e refl
first-now P (a ∷ w) e = rw e refl

first-later : (P : Property) (a : ℕ) (w : List ℕ) → P [] ≡ false → first P (a ∷ w) ≡ one_more (first (λ u. P (a ∷ u)) w)
first-later P a w e = rw e refl

pub first-empty : (P : Property) → P [] ≡ false → first P [] ≡ none
first-empty P e = rw e refl

pub up-to-later : (r : Option ℕ) (a : ℕ) (w : List ℕ) → up_to (one_more r) (a ∷ w) ≡ a ∷ up_to r w
up-to-later none a w = refl
up-to-later (some n) a w = refl

pub following-later : (never : Bool) (r : Option ℕ) (Q : Property) (a : ℕ) (w : List ℕ)
    → following never (one_more r) Q (a ∷ w) ≡ following never r Q w
following-later never none Q a w = refl
following-later never (some n) Q a w = refl

-- the wait of k actions: over, one action shorter, or not over at the empty sequence
late-now : (c : Property) (w : List ℕ) → late_trips 0 c w ≡ c w
late-now c w = rw (leb-zero (length w)) refl

pub late-later : (k : ℕ) (c : Property) (a : ℕ) (w : List ℕ) → late_trips (suc k) c (a ∷ w) ≡ late_trips k c w
late-later k c a w = rw (leb-suc-suc k (length w)) refl

pub late-empty : (k : ℕ) (c : Property) → late_trips (suc k) c [] ≡ false
late-empty k c = rw (leb-suc-zero k) refl

pub fulfilling-later : (k : ℕ) (r : Option ℕ) (b c : Property) (a : ℕ) (w : List ℕ)
    → fulfilling_trips (suc k) (one_more r) b c (a ∷ w) ≡ fulfilling_trips k r b c w
fulfilling-later k none b c a w = late-later k c a w
fulfilling-later k (some n) b c a w = rw (leb-suc-suc n k, late-later k c a w) refl

-- fulfilled at once, b decides
pub fulfilling-now : (k : ℕ) (P : Property) (b c : Property) (w : List ℕ) → P [] ≡ true → fulfilling_trips k (first P w) b c w ≡ b w
fulfilling-now k P b c w e = rw (first-now P w e, leb-zero k) refl

-- with no wait, c decides what is not fulfilled at once
pub fulfilling-over : (P : Property) (b c : Property) (w : List ℕ) → P [] ≡ false → fulfilling_trips 0 (first P w) b c w ≡ c w
fulfilling-over P b c [] e = rw (first-empty P e) (late-now c [])
fulfilling-over P b c (a ∷ w) e = rw (first-later P a w e) (over (first (λ u. P (a ∷ u)) w))
  where
    over : (r : Option ℕ) → fulfilling_trips 0 (one_more r) b c (a ∷ w) ≡ c (a ∷ w)
    over none = late-now c (a ∷ w)
    over (some n) = rw (leb-suc-zero n) (late-now c (a ∷ w))
