-- Every entry fits exactly when the largest of one past each is at most the count of rows.
-- Assumes nothing.
use mathlib.Core.Path.{◌≡◌, refl, sym, ap, subst, ◌∙◌}
use mathlib.Core.Bool.{Bool, true, false, cond}
use mathlib.Core.List.{List}
use Prim.Native.Nat.{ℕ, ◌+◌, ◌-◌, ◌≤◌, ◌<◌, max}
use native.Mathlib.Decide.{ℕ_discrete, dec_lt}
use native.Mathlib.Omega.{arith}
use lib.Dec.{leb}
use lib.ListN.{length, get_or}
use borrow.Author.Tests.{eq-eqb, ne_eqb, leb-true, le-leb}
use Rattle.base.specs.Build.{Decides}
use Rattle.trace.proofs.Laws.{not-both}
use Rattle.table.specs.Table.{EntryFits}
use Rattle.entry_range.specs.Largest.{one_past, Largest}

pub past-trip : (e : ℕ) → e ≡ 255 → one_past e ≡ 0
past-trip e p = ap (λ (b : Bool). cond b 0 (e + 1)) (eq-eqb e 255 p)

pub past_row : (e : ℕ) → (e ≡ 255 → ⊥) → one_past e ≡ e + 1
past_row e q = ap (λ (b : Bool). cond b 0 (e + 1)) (ne_eqb e 255 q)

past_fits : (rows e : ℕ) → one_past e ≤ rows → EntryFits rows e
past_fits rows e h q = omega (arith, past_row e q)

fits-past : (rows e : ℕ) → EntryFits rows e → one_past e ≤ rows
fits-past rows e f =
    elim (ℕ_discrete e 255) [ yes p ↦ omega (arith, past-trip e p) | no q ↦ let g = f q in omega (arith, past_row e q) ]

-- the largest of the first k
pub largest-more : (entries : List ℕ) (k top past : ℕ) → Largest entries k top → past ≡ one_past (get_or entries k 255)
    → Largest entries (k + 1) (max top past)
largest-more entries k top past l e =
    record {
      above = λ j h. elim (ℕ_discrete j k) [
        | yes p ↦ subst (λ (i : ℕ). one_past (get_or entries i 255) ≤ max top past) (sym p) (subst (λ (x : ℕ). x ≤ max top past) e (omega arith))
        | no q ↦ let a = l.above j (omega arith) in omega arith
      ];
      least = λ m h.
          let a = l.least m (λ j i. h j (omega arith)) in
          let b = subst (λ (x : ℕ). x ≤ m) (sym e) (h k (omega arith)) in
          omega arith;
    }

-- the largest of the first k and of k from another place on
pub record Both (entries : List ℕ) (second k top : ℕ) : Type 0 where
  pub front : (j : ℕ) → j < k → one_past (get_or entries j 255) ≤ top
  pub back : (j : ℕ) → j < k → one_past (get_or entries (second + j) 255) ≤ top
  pub least : (m : ℕ) → ((j : ℕ) → j < length entries → one_past (get_or entries j 255) ≤ m) → top ≤ m

-- two halves that cover all entries
pub both-all : (entries : List ℕ) (second half top : ℕ) → second ≤ half → second + half ≡ length entries → Both entries second half top
    → Largest entries (length entries) top
both-all entries second half top meet e b = record { above = above; least = b.least }
  where
    above : (j : ℕ) → j < length entries → one_past (get_or entries j 255) ≤ top
    above j h = elim (dec_lt j half) [
      | yes p ↦ b.front j p
      | no q ↦
          let at : second + (j - second) ≡ j = omega arith in
          subst (λ (i : ℕ). one_past (get_or entries i 255) ≤ top) at (b.back (j - second) (omega arith))
    ]

pub largest-decides : (entries : List ℕ) (k top rows : ℕ) → Largest entries k top → k ≡ length entries
    → Decides ((j : ℕ) → j < length entries → EntryFits rows (get_or entries j 255)) (leb top rows)
largest-decides entries k top rows l e = by (leb top rows) refl
  where
    by : (b : Bool) → leb top rows ≡ b → Decides ((j : ℕ) → j < length entries → EntryFits rows (get_or entries j 255)) b
    by true t = λ j h. past_fits rows (get_or entries j 255) (let a = l.above j (omega arith) in let c = leb-true top rows t in omega arith)
    by false t = λ f. not-both (sym (le-leb top rows (l.least rows (λ j h. fits-past rows (get_or entries j 255) (f j (omega arith))))) ∙ t)
