-- The set of a test: its members, exactly; all numbers, the others, intersections and unions; the lowest member of a set.
-- Assumes nothing.
use mathlib.Core.Path.{◌≡◌, refl, sym, ◌∙◌, ap}
use mathlib.Core.Bool.{Bool, true, false, cond, not, ◌&&◌, ◌||◌, and-true, and-false, or-false}
use mathlib.Core.Logic.{◌↔◌}
use Prim.Native.Nat.{ℕ, zero, suc, ◌+◌, ◌-◌, ◌/◌, ◌%◌, ◌^◌, ◌≤◌, ◌<◌}
use native.Mathlib.Decide.{ℕ_discrete, dec_lt}
use native.Mathlib.Nat.{pow-suc, one-mul, zero-add}
use native.Mathlib.Omega.{arith}
use lib.Dec.{eqb}
use lib.Bits.{bit_and, bit_or, or_shifted}
use lib.Count.{count_trailing_zeros, under}
use lib.Pow.{pow_pos, ones_lt}
use borrow.Author.Tests.{eq-eqb, ne_eqb}
use Rattle.base.specs.Sets.{bit, Member, set_below, every_below, others_below, LowestIn}
use Rattle.base.proofs.Truths.{not-true}
use Rattle.base.proofs.Bits.{member-bit, digit-suc, bit-empty, bit-power, bit-or, bit-and, bit-flip, same_bits, same-members, bit-above, set-wider}

-- n put into a set of numbers below n, or not
put_in : (b : Bool) (n s i : ℕ) → s < 2 ^ n → bit (cond b (2 ^ n) 0 + s) i ≡ (b && eqb i n || bit s i)
put_in true n s i h = ap (λ (x : ℕ). bit x i) (sym (rw (one-mul (2 ^ n)) at (or_shifted 1 n s h))) ∙ bit-or (2 ^ n) s i ∙ rw (bit-power n i)
put_in false n s i h = rw (zero-add s)

module _ (test : ℕ → Bool) where
  pub set_out : (n : ℕ) → test n ≡ false → set_below test (suc n) ≡ set_below test n
  set_out n e = rw e (zero-add (set_below test n))

  -- n numbers make n bits
  pub set-width : (n : ℕ) → set_below test n < 2 ^ n
  set-width zero = omega arith
  set-width (suc n) = by (test n) (set-width n)
    where
      by : (b : Bool) → set_below test n < 2 ^ n → cond b (2 ^ n) 0 + set_below test n < 2 ^ suc n
      by true h = omega (arith, pow-suc 2 n)
      by false h = omega (arith, pow-suc 2 n)

  -- a number below n is in the set where the test is true of it, and no other is
  pub in-set : (n i : ℕ) → i < n → bit (set_below test n) i ≡ test i
  in-set zero i h = absurd (omega arith)
  in-set (suc n) i h = put_in (test n) n (set_below test n) i (set-width n) ∙ by (in-set n i) (ℕ_discrete i n)
    where
      by : (i < n → bit (set_below test n) i ≡ test i) → Dec (i ≡ n) → (test n && eqb i n || bit (set_below test n) i) ≡ test i
      by ih (yes e) = rw (e, eq-eqb n n refl, bit-above n (set_below test n) n (set-width n) (omega arith), and-true (test n)) (or-false (test n))
      by ih (no d) = rw (ne_eqb i n d, and-false (test n)) (ih (omega arith))

  pub above-set : (n i : ℕ) → n ≤ i → bit (set_below test n) i ≡ false
  above-set n i h = bit-above n (set_below test n) i (set-width n) h

  pub member-test : (n i : ℕ) → Member (set_below test n) i → (i < n) × (test i ≡ true)
  member-test n i m = by ((member-bit (set_below test n) i).0 m) (dec_lt i n)
    where
      by : bit (set_below test n) i ≡ true → Dec (i < n) → (i < n) × (test i ≡ true)
      by e (yes h) = (h, sym (in-set n i h) ∙ e)
      by e (no h) = not-true (sym (above-set n i (omega arith)) ∙ e)

  pub test-member : (n i : ℕ) → i < n → test i ≡ true → Member (set_below test n) i
  test-member n i h e = (member-bit (set_below test n) i).1 (in-set n i h ∙ e)

  pub missing-test : (n i : ℕ) → i < n → set_below test n / 2 ^ i % 2 ≡ 0 → test i ≡ false
  missing-test n i h m = sym (in-set n i h) ∙ rw m

  -- the empty set
  pub empty-test : (n : ℕ) → set_below test n ≡ 0 → (i : ℕ) → i < n → test i ≡ false
  empty-test n e i h = sym (in-set n i h) ∙ rw e (bit-empty i)

  pub no-members : (n : ℕ) → ((i : ℕ) → i < n → test i ≡ false) → set_below test n ≡ 0
  no-members zero f = refl
  no-members (suc n) f = set_out n (f n (omega arith)) ∙ no-members n (λ i h. f i (omega arith))

  -- A number is this set exactly when it has these members.
  pub set-exactly : (n s : ℕ) → (s ≡ set_below test n) ↔ ((i : ℕ) → Member s i ↔ ((i < n) × (test i ≡ true)))
  set-exactly n s = (to, from)
    where
      to : s ≡ set_below test n → (i : ℕ) → Member s i ↔ ((i < n) × (test i ≡ true))
      to e i = rw e (member-test n i, λ p. test-member n i p.0 p.1)

      from : ((i : ℕ) → Member s i ↔ ((i < n) × (test i ≡ true))) → s ≡ set_below test n
      from f = same-members s (set_below test n) (λ i. (λ m. let p = (f i).0 m in test-member n i p.0 p.1, λ m. (f i).1 (member-test n i m)))

  -- the same by bits
  pub set_is : (n s : ℕ) → ((i : ℕ) → i < n → bit s i ≡ test i) → ((i : ℕ) → n ≤ i → bit s i ≡ false) → s ≡ set_below test n
  set_is n s inside above =
      same_bits s (set_below test n)
      (λ i. elim (dec_lt i n) [ yes h ↦ inside i h ∙ sym (in-set n i h) | no h ↦ above i (omega arith) ∙ sym (above-set n i (omega arith)) ])

-- sets worked out from sets
every_in : (n i : ℕ) → i < n → bit (every_below n) i ≡ true
every_in n i h = ap (λ (x : ℕ). bit x i) (omega arith) ∙ bit-flip n 0 i (pow_pos n) h ∙ ap not (bit-empty i)

every-above : (n i : ℕ) → n ≤ i → bit (every_below n) i ≡ false
every-above n i h = bit-above n (every_below n) i (ones_lt n) h

pub set-every : (n : ℕ) → every_below n ≡ set_below (λ i. true) n
set-every n = set_is (λ i. true) n (every_below n) (every_in n) (every-above n)

module _ (f : ℕ → Bool) (n : ℕ) where
  pub set-others : n ≤ 16 → others_below n (set_below f n) ≡ set_below (λ i. not (f i)) n
  set-others few = set_is (λ i. not (f i)) n (others_below n (set_below f n)) inside above
    where
      inside : (i : ℕ) → i < n → bit (others_below n (set_below f n)) i ≡ not (f i)
      inside i h =
          bit-and (every_below n) (65535 - set_below f n) i
          ∙ rw (every_in n i h, bit-flip 16 (set_below f n) i (set-wider n 16 (set_below f n) few (set-width f n)) (omega arith), in-set f n i h)

      above : (i : ℕ) → n ≤ i → bit (others_below n (set_below f n)) i ≡ false
      above i h = bit-and (every_below n) (65535 - set_below f n) i ∙ rw (every-above n i h)

  module _ (g : ℕ → Bool) where
    pub set-and : bit_and (set_below f n) (set_below g n) ≡ set_below (λ i. f i && g i) n
    set-and =
        set_is (λ i. f i && g i) n (bit_and (set_below f n) (set_below g n)) (λ i h. bit-and (set_below f n) (set_below g n) i ∙ rw (in-set f n i h, in-set g n i h))
        (λ i h. bit-and (set_below f n) (set_below g n) i ∙ rw (above-set f n i h))

    pub set-or : bit_or (set_below f n) (set_below g n) ≡ set_below (λ i. f i || g i) n
    set-or =
        set_is (λ i. f i || g i) n (bit_or (set_below f n) (set_below g n)) (λ i h. bit-or (set_below f n) (set_below g n) i ∙ rw (in-set f n i h, in-set g n i h))
        (λ i h. bit-or (set_below f n) (set_below g n) i ∙ rw (above-set f n i h, above-set g n i h))

-- Trailing zeros find the lowest member.
low_digit : (s : ℕ) → s / 2 ^ 0 % 2 ≡ s % 2
low_digit s = omega arith

pub lowest-in : (k s : ℕ) → 0 < s → s < 2 ^ k → LowestIn s (count_trailing_zeros k s)
unfolding count_trailing_zeros
lowest-in zero s h g = absurd (omega arith)
lowest-in (suc k) s h g = by (s % 2) refl (lowest-in k (s / 2))
  where
    by : (d : ℕ) → s % 2 ≡ d → (0 < s / 2 → s / 2 < 2 ^ k → LowestIn (s / 2) (count_trailing_zeros k (s / 2))) → LowestIn s (under d (count_trailing_zeros k (s / 2)))
    by zero e f =
        let l = f (omega arith) (omega (arith, pow-suc 2 k)) in
        record { member = digit-suc s (count_trailing_zeros k (s / 2)) ∙ l.member; lowest = none e l.lowest }
      where
        none : s % 2 ≡ 0 → ((i : ℕ) → i < count_trailing_zeros k (s / 2) → s / 2 / 2 ^ i % 2 ≡ 0) → (i : ℕ) → i < suc (count_trailing_zeros k (s / 2)) → s / 2 ^ i % 2 ≡ 0
        none o f zero h = low_digit s ∙ o
        none o f (suc i) h = digit-suc s i ∙ f i (omega arith)
    by (suc d) e f = record { member = low_digit s ∙ omega arith; lowest = λ i h. absurd (omega arith) }
