-- The bits of a number: of a half, of a power, of unions, intersections and complements; a number is its bits; how many it has.
-- Assumes nothing.
use mathlib.Core.Path.{◌≡◌, refl, sym, ◌∙◌}
use mathlib.Core.Bool.{Bool, true, false, cond, not, ◌&&◌, ◌||◌, or_assoc}
use mathlib.Core.Logic.{◌↔◌, ◌⊎◌, inl, inr}
use Prim.Native.Nat.{ℕ, zero, suc, ◌+◌, ◌*◌, ◌-◌, ◌/◌, ◌%◌, ◌^◌, ◌≤◌, ◌<◌, min, max}
use native.Mathlib.Nat.{mod-lt, pow-suc, mul-div_cancel, div-one, zero-div, div-eq_of_lt, lt_of_lt_of_le}
use native.Mathlib.Numerals.{one-add, add-one}
use native.Mathlib.Omega.{arith}
use lib.Dec.{eqb, eqb-zero-suc, eqb-suc-zero, eqb-suc-suc}
use lib.Arith.{bin_ind}
use lib.Pow.{pow_pos, pow_mono, shr-shr, split}
use lib.Bits.{bit_and, bit_or, and_step, and_shr, or_step, or_shr}
use borrow.Author.Tests.{eq-eqb, eqb-true, eqb-false}
use Rattle.base.specs.Sets.{bit, Member}
use Rattle.base.proofs.Truths.{not-true, or-true, either_true, same_truth}

-- A number is in a set exactly when its bit is set.
pub member-bit : (s i : ℕ) → Member s i ↔ (bit s i ≡ true)
member-bit s i = (eq-eqb (s / 2 ^ i % 2) 1, eqb-true (s / 2 ^ i % 2) 1)

-- the bits of a number are its lowest one and those of its half
pub digit-suc : (s i : ℕ) → s / 2 ^ suc i % 2 ≡ s / 2 / 2 ^ i % 2
digit-suc s i = rw (← one-add i, ← shr-shr s 1 i) refl

bit-zero : (s : ℕ) → bit s 0 ≡ eqb (s % 2) 1
bit-zero s = rw (div-one s)

bit-suc : (s i : ℕ) → bit s (suc i) ≡ bit (s / 2) i
bit-suc s i = rw (digit-suc s i)

-- a fact of two digits, by its four cases
digits : (P : ℕ → ℕ → Type 0) → P 0 0 → P 0 1 → P 1 0 → P 1 1 → (x y : ℕ) → P (x % 2) (y % 2)
digits P a b c d x y = by (x % 2) (y % 2) (mod-lt x (omega arith)) (mod-lt y (omega arith))
  where
    by : (x y : ℕ) → x < 2 → y < 2 → P x y
    by zero zero g h = a
    by zero (suc zero) g h = b
    by zero (suc (suc y)) g h = absurd (omega arith)
    by (suc zero) zero g h = c
    by (suc zero) (suc zero) g h = d
    by (suc zero) (suc (suc y)) g h = absurd (omega arith)
    by (suc (suc x)) y g h = absurd (omega arith)

-- the empty set has no member; one number is the set of its power
pub bit-empty : (i : ℕ) → bit 0 i ≡ false
bit-empty i = rw (zero-div (2 ^ i))

pub bit-power : (n i : ℕ) → bit (2 ^ n) i ≡ eqb i n
bit-power zero zero = refl
bit-power zero (suc i) = bit-suc 1 i ∙ bit-empty i ∙ sym (eqb-suc-zero i)
bit-power (suc n) zero = bit-zero (2 ^ suc n) ∙ rw even (sym (eqb-zero-suc n))
  where
    even : 2 ^ suc n % 2 ≡ 0
    even = rw (pow-suc 2 n) (omega arith)
bit-power (suc n) (suc i) = bit-suc (2 ^ suc n) i ∙ rw (half, eqb-suc-suc i n) (bit-power n i)
  where
    half : 2 ^ suc n / 2 ≡ 2 ^ n
    half = rw (pow-suc 2 n) (mul-div_cancel (2 ^ n) (omega arith))

pub power-exactly : (n i : ℕ) → (bit (2 ^ n) i ≡ true) ↔ (i ≡ n)
power-exactly n i = (λ e. eqb-true i n (sym (bit-power n i) ∙ e), λ e. bit-power n i ∙ eq-eqb i n e)

-- union and intersection
pub bit-or : (s t i : ℕ) → bit (bit_or s t) i ≡ (bit s i || bit t i)
bit-or s t i =
    rw (or_shr s t i, or_step (s / 2 ^ i) (t / 2 ^ i))
    (rw low (digits (λ x y. eqb (max x y) 1 ≡ (eqb x 1 || eqb y 1)) refl refl refl refl (s / 2 ^ i) (t / 2 ^ i)))
  where
    low : (bit_or (s / 2 ^ i / 2) (t / 2 ^ i / 2) * 2 + max (s / 2 ^ i % 2) (t / 2 ^ i % 2)) % 2 ≡ max (s / 2 ^ i % 2) (t / 2 ^ i % 2)
    low = omega arith

pub or-exactly : (s t i : ℕ) {P Q : Type 0} → (bit s i ≡ true) ↔ P → (bit t i ≡ true) ↔ Q → (bit (bit_or s t) i ≡ true) ↔ (P ⊎ Q)
or-exactly s t i {P} {Q} p q = (to, from)
  where
    to : bit (bit_or s t) i ≡ true → P ⊎ Q
    to e = elim (or-true (bit s i) (bit t i) (sym (bit-or s t i) ∙ e)) [ inl h ↦ inl (p.0 h) | inr h ↦ inr (q.0 h) ]

    from : P ⊎ Q → bit (bit_or s t) i ≡ true
    from (inl h) = bit-or s t i ∙ either_true (bit s i) (bit t i) (inl (p.1 h))
    from (inr h) = bit-or s t i ∙ either_true (bit s i) (bit t i) (inr (q.1 h))

pub bit-and : (s t i : ℕ) → bit (bit_and s t) i ≡ (bit s i && bit t i)
bit-and s t i =
    rw (and_shr s t i, and_step (s / 2 ^ i) (t / 2 ^ i))
    (rw low (digits (λ x y. eqb (min x y) 1 ≡ (eqb x 1 && eqb y 1)) refl refl refl refl (s / 2 ^ i) (t / 2 ^ i)))
  where
    low : (bit_and (s / 2 ^ i / 2) (t / 2 ^ i / 2) * 2 + min (s / 2 ^ i % 2) (t / 2 ^ i % 2)) % 2 ≡ min (s / 2 ^ i % 2) (t / 2 ^ i % 2)
    low = omega arith

-- all ones less a set has the other bits
pub bit-flip : (k s i : ℕ) → s < 2 ^ k → i < k → bit (2 ^ k - 1 - s) i ≡ not (bit s i)
bit-flip zero s i h g = absurd (omega arith)
bit-flip (suc k) s zero h g =
    rw (bit-zero (2 ^ suc k - 1 - s), bit-zero s, low) (digits (λ x y. eqb (1 - x) 1 ≡ not (eqb x 1)) refl refl refl refl s s)
  where
    low : (2 ^ suc k - 1 - s) % 2 ≡ 1 - s % 2
    low = omega (arith, pow-suc 2 k)
bit-flip (suc k) s (suc i) h g =
    rw (bit-suc (2 ^ suc k - 1 - s) i, bit-suc s i, half) (bit-flip k (s / 2) i (omega (arith, pow-suc 2 k)) (omega arith))
  where
    half : (2 ^ suc k - 1 - s) / 2 ≡ 2 ^ k - 1 - s / 2
    half = omega (arith, pow-suc 2 k)

-- extensionality: a set is its members
no_bits : (s : ℕ) → ((i : ℕ) → bit s i ≡ false) → s ≡ 0
no_bits = bin_ind (λ (s : ℕ). ((i : ℕ) → bit s i ≡ false) → s ≡ 0) (λ h. refl) halved
  where
    halved : (s : ℕ) → (((i : ℕ) → bit (s / 2) i ≡ false) → s / 2 ≡ 0) → ((i : ℕ) → bit s i ≡ false) → s ≡ 0
    halved s ih h =
        let half = ih (λ i. sym (bit-suc s i) ∙ h (suc i)) in
        let low = eqb-false (s % 2) 1 (sym (bit-zero s) ∙ h 0) in
        omega arith

pub same_bits : (s t : ℕ) → ((i : ℕ) → bit s i ≡ bit t i) → s ≡ t
same_bits = bin_ind (λ (s : ℕ). (t : ℕ) → ((i : ℕ) → bit s i ≡ bit t i) → s ≡ t) empty halved
  where
    empty : (t : ℕ) → ((i : ℕ) → bit 0 i ≡ bit t i) → 0 ≡ t
    empty t h = sym (no_bits t (λ i. sym (h i) ∙ bit-empty i))

    halved : (s : ℕ) → ((t : ℕ) → ((i : ℕ) → bit (s / 2) i ≡ bit t i) → s / 2 ≡ t) → (t : ℕ) → ((i : ℕ) → bit s i ≡ bit t i) → s ≡ t
    halved s ih t h =
        let half = ih (t / 2) (λ i. sym (bit-suc s i) ∙ h (suc i) ∙ bit-suc t i) in
        let low : s % 2 ≡ t % 2 = digits (λ x y. eqb x 1 ≡ eqb y 1 → x ≡ y) (λ e. refl) (λ e. not-true e) (λ e. not-true (sym e)) (λ e. refl) s t (sym (bit-zero s) ∙ h 0 ∙ bit-zero t) in
        omega arith

pub same-members : (s t : ℕ) → ((i : ℕ) → Member s i ↔ Member t i) → s ≡ t
same-members s t f =
    same_bits s t
    (λ i. same_truth (bit s i) (bit t i) (λ e. (member-bit t i).0 ((f i).0 ((member-bit s i).1 e))) (λ e. (member-bit s i).0 ((f i).1 ((member-bit t i).1 e))))

pub union_assoc : (s t u : ℕ) → bit_or s (bit_or t u) ≡ bit_or (bit_or s t) u
union_assoc s t u = same_bits (bit_or s (bit_or t u)) (bit_or (bit_or s t) u) each
  where
    each : (i : ℕ) → bit (bit_or s (bit_or t u)) i ≡ bit (bit_or (bit_or s t) u) i
    each i = rw (bit-or s (bit_or t u) i, bit-or t u i, bit-or (bit_or s t) u i, bit-or s t i) (sym (or_assoc (bit s i) (bit t i) (bit u i)))

-- a set of numbers below k is a number of k bits
pub bit-above : (k s i : ℕ) → s < 2 ^ k → k ≤ i → bit s i ≡ false
bit-above k s i h g = rw (div-eq_of_lt (lt_of_lt_of_le h (pow_mono g)))

pub bits_below : (k s : ℕ) → ((i : ℕ) → k ≤ i → bit s i ≡ false) → s < 2 ^ k
bits_below k s h = omega (arith, rw none at (split s k), mod-lt s (pow_pos k))
  where
    none : s / 2 ^ k ≡ 0
    none = no_bits (s / 2 ^ k) (λ i. rw (shr-shr s k i) (h (k + i) (omega arith)))

pub bit_below : (b : Bool) (n set : ℕ) → set < 2 ^ n → set + cond b (2 ^ n) 0 < 2 ^ (n + 1)
bit_below true n set h = rw (add-one n) (omega (arith, pow-suc 2 n))
bit_below false n set h = rw (add-one n) (omega (arith, pow-suc 2 n))

pub set-wider : (n m set : ℕ) → n ≤ m → set < 2 ^ n → set < 2 ^ m
set-wider n m set h g = lt_of_lt_of_le g (pow_mono h)
