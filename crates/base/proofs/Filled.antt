-- Lists of a fixed size that are filled one by one: each place holds what was put there, and those behind are blank.
-- Assumes nothing.
use mathlib.Core.Path.{◌≡◌, sym, subst, ◌∙◌}
use mathlib.Core.List.{List}
use Prim.Native.Nat.{ℕ, zero, suc, ◌≤◌, ◌<◌}
use native.Mathlib.Decide.{ℕ_discrete, dec_lt}
use native.Mathlib.Omega.{arith}
use lib.ListN.{length, get_or, set, replicate, length-set, length-replicate}
use lib.Seq.{get_or-set_same, get_or-set_other, ext_get_or}
use Rattle.base.specs.Build.{filled}
use Rattle.base.proofs.Lists.{get_or-blank}

-- The first entries are as a property says, with one filler behind them: an entry more, and that there is one such list.
pub record Filled {A : Type 0} (filler : A) (P : ℕ → A → Type 0) (size k : ℕ) (l : List A) : Type 0 where
  pub long : length l ≡ size
  pub each : (i : ℕ) → i < k → P i (get_or l i filler)
  pub behind : (i : ℕ) → k ≤ i → get_or l i filler ≡ filler

module _ {A : Type 0} {filler : A} {P : ℕ → A → Type 0} {size : ℕ} where
  pub filled_none : Filled filler P size 0 (replicate size filler)
  filled_none = record { long = length-replicate size filler; each = λ i h. absurd (omega arith); behind = λ i h. get_or-blank size i filler }

  pub filled_more : {k : ℕ} {l : List A} {x : A} → Filled filler P size k l → k < size → P k x → Filled filler P size (suc k) (set l k x)
  filled_more {k} {l} {x} f h p = record { long = length-set l k x ∙ f.long; each = each; behind = behind }
    where
      each : (i : ℕ) → i < suc k → P i (get_or (set l k x) i filler)
      each i g =
          elim (ℕ_discrete i k) [
            | yes e ↦ subst (λ (j : ℕ). P j (get_or (set l k x) j filler)) (sym e) (subst (P k) (sym (get_or-set_same l k x filler (omega (arith, f.long)))) p)
            | no q ↦ subst (P i) (sym (get_or-set_other l k i x filler q)) (f.each i (omega arith))
          ]

      behind : (i : ℕ) → suc k ≤ i → get_or (set l k x) i filler ≡ filler
      behind i g = get_or-set_other l k i x filler (λ e. omega arith) ∙ f.behind i (omega arith)

  pub filled-same : {k : ℕ} {l m : List A} → ((i : ℕ) (x y : A) → P i x → P i y → x ≡ y) → Filled filler P size k l → Filled filler P size k m → l ≡ m
  filled-same {k} {l} {m} one f g = ext_get_or filler l m (f.long ∙ sym g.long) at
    where
      at : (i : ℕ) → i < length l → get_or l i filler ≡ get_or m i filler
      at i h = elim (dec_lt i k) [ yes p ↦ one i _ _ (f.each i p) (g.each i p) | no q ↦ f.behind i (omega arith) ∙ sym (g.behind i (omega arith)) ]

-- by a function of the places before
module _ {A : Type 0} (room : ℕ) (blank : A) (next : ℕ → List A → A) where
  abbrev up_to : ℕ → List A
  up_to n = filled room blank next n

  length-filled : (n : ℕ) → length (up_to n) ≡ room
  length-filled zero = length-replicate room blank
  length-filled (suc n) = length-set (up_to n) n (next n (up_to n)) ∙ length-filled n

  pub filled_at : (j n : ℕ) → n < j → j ≤ room → get_or (filled room blank next j) n blank ≡ next n (filled room blank next n)
  filled_at zero n h g = absurd (omega arith)
  filled_at (suc j) n h g = go (filled_at j n) (ℕ_discrete n j)
    where
      go : (n < j → j ≤ room → get_or (up_to j) n blank ≡ next n (up_to n)) → Dec (n ≡ j) → get_or (up_to (suc j)) n blank ≡ next n (up_to n)
      go ih (yes p) = rw p (get_or-set_same (up_to j) j (next j (up_to j)) blank (omega (arith, length-filled j)))
      go ih (no q) = get_or-set_other (up_to j) j n (next j (up_to j)) blank q ∙ ih (omega arith) (omega arith)

  -- what is not filled yet is blank
  filled-behind : (j n : ℕ) → j ≤ n → get_or (filled room blank next j) n blank ≡ blank
  filled-behind zero n h = get_or-blank room n blank
  filled-behind (suc j) n h = get_or-set_other (up_to j) j n (next j (up_to j)) blank (λ e. omega arith) ∙ filled-behind j n (omega arith)

  -- A place that is filled with a blank can be left as it is.
  pub filled-skip : (n : ℕ) → next n (filled room blank next n) ≡ blank → filled room blank next (suc n) ≡ filled room blank next n
  filled-skip n e = ext_get_or blank (up_to (suc n)) (up_to n) (length-set (up_to n) n (next n (up_to n))) at
    where
      at : (i : ℕ) → i < length (up_to (suc n)) → get_or (up_to (suc n)) i blank ≡ get_or (up_to n) i blank
      at i h = elim (ℕ_discrete i n) [
        | yes p ↦
            rw p
            (get_or-set_same (up_to n) n (next n (up_to n)) blank (omega (arith, p, h, length-set (up_to n) n (next n (up_to n)))) ∙ e
            ∙ sym (filled-behind n n (omega arith)))
        | no q ↦ get_or-set_other (up_to n) n i (next n (up_to n)) blank q
      ]
