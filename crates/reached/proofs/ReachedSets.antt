-- The set of what is reached is right: bit m is set exactly where m is reached, for any parts that stand before their whole.
-- Assumes nothing.
use mathlib.Core.Path.{◌≡◌, refl, sym, ◌∙◌, subst}
use mathlib.Core.Bool.{Bool, true, false, cond}
use mathlib.Core.Logic.{◌↔◌, ◌⊎◌, inl, inr}
use Prim.Native.Nat.{ℕ, zero, suc, ◌^◌, ◌≤◌, ◌<◌}
use native.Mathlib.Decide.{dec_lt}
use native.Mathlib.Omega.{arith}
use lib.Bits.{bit_or}
use Rattle.base.specs.Sets.{bit}
use Rattle.base.proofs.Bits.{bit-or, power-exactly}
use Rattle.base.proofs.Truths.{not-true, or-true, either_true}
use Rattle.reached.specs.Reached.{Reached, itself, onward, spread, reached_set, Earlier}

-- more parts reach more
pub reached-map : {P Q : ℕ → ℕ → Type 0} {from : ℕ} → ((n m : ℕ) → P n m → Q n m) → {m : ℕ} → Reached P from m → Reached Q from m
reached-map f itself = itself
reached-map f (onward r p) = onward (reached-map f r) (f _ _ p)

-- what is reached stands no later, where parts stand before their whole
pub reached-no-later : {P : ℕ → ℕ → Type 0} {from : ℕ} → ((n m : ℕ) → n ≤ from → P n m → m < n) → {m : ℕ} → Reached P from m → m ≤ from
reached-no-later earlier itself = omega arith
reached-no-later earlier (onward r p) = let h = reached-no-later earlier r in let g = earlier _ _ h p in omega arith

module _ (parts : ℕ → ℕ) where
  -- m is in the set of the parts of n
  abbrev pub Listed : ℕ → ℕ → Type 0
  Listed n m = bit (parts n) m ≡ true

  -- the set with the parts of n, where n is in it
  abbrev joined : ℕ → ℕ → ℕ
  joined set n = cond (bit set n) (bit_or set (parts n)) set

  joined_keeps : (set n m : ℕ) → bit set m ≡ true → bit (joined set n) m ≡ true
  joined_keeps set n m e = by (bit set n)
    where
      by : (b : Bool) → bit (cond b (bit_or set (parts n)) set) m ≡ true
      by true = bit-or set (parts n) m ∙ either_true (bit set m) (bit (parts n) m) (inl e)
      by false = e

  joined-from : (set n m : ℕ) → bit (joined set n) m ≡ true → (bit set m ≡ true) ⊎ ((bit set n ≡ true) × Listed n m)
  joined-from set n m e = by (bit set n) refl e
    where
      by : (b : Bool) → bit set n ≡ b → bit (cond b (bit_or set (parts n)) set) m ≡ true → (bit set m ≡ true) ⊎ ((bit set n ≡ true) × Listed n m)
      by true p e = elim (or-true (bit set m) (bit (parts n) m) (sym (bit-or set (parts n) m) ∙ e)) [ inl h ↦ inl h | inr h ↦ inr (p, h) ]
      by false p e = inl e

  -- what is in the set stays in it
  spread-keeps : (n set m : ℕ) → bit set m ≡ true → bit (spread parts set n) m ≡ true
  spread-keeps zero set m e = e
  spread-keeps (suc n) set m e = spread-keeps n (joined set n) m (joined_keeps set n m e)

  -- nothing comes in but what is reached
  spread-reached : {R : ℕ → Type 0} → ((n m : ℕ) → R n → Listed n m → R m) → (n set : ℕ) → ((m : ℕ) → bit set m ≡ true → R m)
      → (m : ℕ) → bit (spread parts set n) m ≡ true → R m
  spread-reached more zero set h m e = h m e
  spread-reached {R} more (suc n) set h m e = spread-reached more n (joined set n) in-joined m e
    where
      in-joined : (m : ℕ) → bit (joined set n) m ≡ true → R m
      in-joined m e = elim (joined-from set n m e) [ inl g ↦ h m g | inr g ↦ more n m (h n g.0) g.1 ]

  module _ (from : ℕ) (earlier : Earlier parts from) where
    -- the nodes from n on are as they were
    spread-above : (n set m : ℕ) → n ≤ suc from → n ≤ m → bit (spread parts set n) m ≡ true → bit set m ≡ true
    spread-above zero set m l h e = e
    spread-above (suc n) set m l h e = elim (joined-from set n m (spread-above n (joined set n) m (omega arith) (omega arith) e)) [
      | inl g ↦ g
      | inr g ↦ absurd (let k = earlier n m (omega arith) g.1 in omega arith)
    ]

    -- the parts of what is in come in
    spread-closed : (n set k m : ℕ) → n ≤ suc from → k < n → bit (spread parts set n) k ≡ true → Listed k m → bit (spread parts set n) m ≡ true
    spread-closed zero set k m l h e p = absurd (omega arith)
    spread-closed (suc n) set k m l h e p = elim (dec_lt k n) [
      | yes g ↦ spread-closed n (joined set n) k m (omega arith) g e p
      | no g ↦ last (omega arith)
    ]
      where
        last : k ≡ n → bit (spread parts (joined set n) n) m ≡ true
        last q = spread-keeps n (joined set n) m (added (bit set n) refl)
          where
            here : bit (joined set n) n ≡ true
            here = spread-above n (joined set n) n (omega arith) (omega arith) (subst (λ (i : ℕ). bit (spread parts (joined set n) n) i ≡ true) q e)

            added : (b : Bool) → bit set n ≡ b → bit (cond (bit set n) (bit_or set (parts n)) set) m ≡ true
            added true f =
                rw f (bit-or set (parts n) m ∙ either_true (bit set m) (bit (parts n) m) (inr (subst (λ (i : ℕ). Listed i m) q p)))
            added false f = elim (joined-from set n n here) [ inl g ↦ not-true (sym f ∙ g) | inr g ↦ not-true (sym f ∙ g.0) ]

    -- Bit m of the set is set exactly where m is reached.
    in-set : {m : ℕ} → Reached Listed from m → bit (reached_set parts from) m ≡ true
    in-set itself = spread-keeps (suc from) (2 ^ from) from ((power-exactly from from).1 refl)
    in-set (onward {n} {m} r p) =
        let h = reached-no-later earlier r in
        spread-closed (suc from) (2 ^ from) n m (omega arith) (omega arith) (in-set r) p

    pub reached-set : (m : ℕ) → (bit (reached_set parts from) m ≡ true) ↔ Reached Listed from m
    reached-set m = (spread-reached (λ n m r p. onward r p) (suc from) (2 ^ from) (λ m e. first m e) m, in-set)
      where
        first : (m : ℕ) → bit (2 ^ from) m ≡ true → Reached Listed from m
        first m e = subst (Reached Listed from) (sym ((power-exactly from m).0 e)) itself
