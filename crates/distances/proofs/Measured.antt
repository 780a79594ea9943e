-- Alike states have one distance; numbers that only fall stay no smaller than the distances.
-- Assumes nothing.
use mathlib.Core.Path.{◌≡◌, refl, sym, ap, subst, ◌∙◌}
use mathlib.Core.Bool.{Bool, true, false, ◌&&◌}
use mathlib.Core.List.{List}
use Prim.Native.Nat.{ℕ, zero, suc, ◌+◌, ◌*◌, ◌≤◌, ◌<◌, min}
use native.Mathlib.Decide.{ℕ_discrete, dec_lt}
use native.Mathlib.Omega.{arith}
use lib.Arith.{digits_lt}
use lib.Dec.{eqb}
use lib.ListN.{length, get_or, set, replicate, length-set, length-replicate, get_or-replicate, get_or-eq_default}
use lib.Seq.{get_or-set_same, get_or-set_other, set-get_or}
use borrow.Author.Tests.{eqb-true}
use Rattle.automaton.specs.Machine.{AlikeStates, Machine}
use Rattle.distances.specs.Distances.{behind_entry, OneFurther, NotBelow, NotAbove, Distances, SameNumber}
use Rattle.base.proofs.Lists.{get_or-within}
use Rattle.automaton.proofs.Classes.{alike-equivalence}
use Rattle.automaton.proofs.Entries.{Matched, both-trip, both_go, alike-matched}

module _ (mark states actions : ℕ) (next far : List ℕ) (m : Machine mark states actions next) (paired : length far ≡ states) (d : Distances actions next far) where
  abbrev entry : ℕ → ℕ → ℕ
  entry s a = get_or next (s * actions + a) mark

  -- the distance after an entry
  pub behind : (s a : ℕ) → s < states → a < actions → behind_entry next far (s * actions + a) ≡ get_or far (entry s a) 0
  behind s a h g = ap (λ (e : ℕ). get_or far e 0) (get_or-within next (s * actions + a) 0 mark (omega (arith, digits_lt h g, m.sized)))

  -- a trip has distance 0
  pub mark-far : (e : ℕ) → e ≡ mark → get_or far e 0 ≡ 0
  mark-far e p = get_or-eq_default far 0 {n = e} (omega (arith, p, paired, m.marked))

  -- the second state is no further than the first, where that holds of nearer states
  step : (s t : ℕ) → ((x y : ℕ) → get_or far x 0 < get_or far s 0 → x < states → y < states → AlikeStates mark actions next x y → get_or far y 0 ≤ get_or far x 0)
      → s < states → t < states → AlikeStates mark actions next s t → get_or far t 0 ≤ get_or far s 0
  step s t ih hs ht e = elim (dec_lt (get_or far s 0) 255) [ yes l ↦ by l | no l ↦ omega (arith, d.not-below.small t) ]
    where
      lower : (a : ℕ) → a < actions → get_or far (entry s a) 0 < get_or far s 0
          → Matched (AlikeStates mark actions next) mark (entry s a) mark (entry t a) → get_or far (entry t a) 0 ≤ get_or far (entry s a) 0
      lower a g n (both-trip p q) = omega (arith, mark-far (entry t a) q)
      lower a g n (both_go p q r) =
          ih (entry s a) (entry t a) n (m.closed (s * actions + a) (digits_lt hs g) p) (m.closed (t * actions + a) (digits_lt ht g) q) r

      by : get_or far s 0 < 255 → get_or far t 0 ≤ get_or far s 0
      by l =
          let n = d.not-below.nearer s (omega (arith, paired)) l in
          let near : get_or far (entry s n.0) 0 < get_or far s 0 = omega (arith, behind s n.0 hs n.1, n.2) in
          omega (
            arith,
            d.not-above t (omega (arith, paired)) n.0 n.1,
            behind t n.0 ht n.1,
            lower n.0 n.1 near (alike-matched actions mark next mark next e n.0 n.1),
            near,
          )

  -- by induction on the distance of the first
  no-further : (k s t : ℕ) → get_or far s 0 < k → s < states → t < states → AlikeStates mark actions next s t → get_or far t 0 ≤ get_or far s 0
  no-further zero s t h hs ht e = absurd (omega arith)
  no-further (suc k) s t h hs ht e = step s t (λ x y l. no-further k x y (omega arith)) hs ht e

  pub alike-distance : (s t : ℕ) → s < states → t < states → AlikeStates mark actions next s t → SameNumber far s t
  alike-distance s t hs ht e =
      omega (
        arith,
        no-further (suc (get_or far s 0)) s t (omega arith) hs ht e,
        no-further (suc (get_or far t 0)) t s (omega arith) ht hs ((alike-equivalence mark actions next).symmetric s t e),
      )

-- nothing is nearer than 255 at first
pub none-measured : (actions : ℕ) (next far : List ℕ) (n : ℕ) → far ≡ replicate n 255 → NotBelow actions next far
none-measured actions next far n e = record { small = small; nearer = nearer }
  where
    at : (s : ℕ) → s < n → get_or far s 0 ≡ 255
    at s h = rw e (get_or-replicate n s 255 0 h)

    small : (s : ℕ) → get_or far s 0 ≤ 255
    small s = elim (dec_lt s n) [ yes h ↦ omega (arith, at s h) | no h ↦ omega (arith, get_or-eq_default far 0 {n = s} (omega (arith, ap length e, length-replicate {A = ℕ} n 255))) ]

    nearer : (s : ℕ) → s < length far → get_or far s 0 < 255 → (a : ℕ) × (a < actions) × (behind_entry next far (s * actions + a) < get_or far s 0)
    nearer s h l = absurd (omega (arith, at s (omega (arith, ap length e, length-replicate {A = ℕ} n 255))))

-- state s is put one further than the nearest behind it
module _ (actions : ℕ) (next far : List ℕ) (low : NotBelow actions next far) (s : ℕ) (here : s < length far) (r : ℕ)
    (further : OneFurther next far (s * actions) actions r) where
  -- which is no further than it stood
  falls : r ≤ get_or far s 0
  falls =
      elim (dec_lt (get_or far s 0) 255) [
        | yes l ↦ let n = low.nearer s here l in omega (arith, further.least n.0 n.1, n.2)
        | no l ↦ omega (arith, further.small)
      ]

  abbrev now : List ℕ
  now = set far s r

  own : get_or now s 0 ≡ r
  own = get_or-set_same far s r 0 here

  kept : (t : ℕ) → (t ≡ s → ⊥) → get_or now t 0 ≡ get_or far t 0
  kept t q = get_or-set_other far s t r 0 q

  all-fall : (t : ℕ) → get_or now t 0 ≤ get_or far t 0
  all-fall t = elim (ℕ_discrete t s) [ yes e ↦ rw e (omega (arith, own, falls)) | no q ↦ omega (arith, kept t q) ]

  pub put-further : NotBelow actions next (set far s r)
  put-further = record { small = λ t. omega (arith, all-fall t, low.small t); nearer = nearer }
    where
      Nearer : ℕ → Type 0
      Nearer t = get_or now t 0 < 255 → (a : ℕ) × (a < actions) × (behind_entry next now (t * actions + a) < get_or now t 0)

      here-nearer : Nearer s
      here-nearer l =
          let n = further.found (omega (arith, own)) in
          (n.0, n.1, omega (arith, own, n.2, all-fall (get_or next (s * actions + n.0) 0)))

      nearer : (t : ℕ) → t < length now → Nearer t
      nearer t h =
          elim (ℕ_discrete t s) [
            | yes e ↦ subst Nearer (sym e) here-nearer
            | no q ↦ λ l.
                let n = low.nearer t (omega (arith, length-set far s r)) (omega (arith, kept t q)) in
                (n.0, n.1, omega (arith, kept t q, n.2, all-fall (get_or next (t * actions + n.0) 0)))
          ]

  -- where it stood so, and those behind it are not above, it is not above either
  stays : get_or far s 0 ≡ r → set far s r ≡ far
  stays e = ap (set far s) (sym e) ∙ set-get_or far s 0

  not-above : get_or far s 0 ≡ r → NotAbove actions next far s
  not-above e a h = omega (arith, further.least a h)

  pub sweep-more : (settled : Bool) → (settled ≡ true → (t : ℕ) → suc s ≤ t → t < length far → NotAbove actions next far t)
      → (settled && eqb (get_or far s 0) r) ≡ true → (t : ℕ) → s ≤ t → t < length (set far s r) → NotAbove actions next (set far s r) t
  sweep-more false f e t l h = absurd (let z : ◌≡◌ {A = ℕ} 0 1 = cc in omega arith)
  sweep-more true f e t l h =
      let q = eqb-true (get_or far s 0) r e in
      subst (λ (x : List ℕ). NotAbove actions next x t) (sym (stays q))
      (elim (ℕ_discrete t s) [
        | yes p ↦ subst (NotAbove actions next far) (sym p) (not-above q)
        | no p ↦ f refl t (omega arith) (omega (arith, length-set far s r))
      ])

-- The least of 254 and the distances behind the entries before a.
pub record Least (next far : List ℕ) (row a least : ℕ) : Type 0 where
  pub small : least ≤ 254
  pub below : (b : ℕ) → b < a → least ≤ behind_entry next far (row + b)
  pub found : least < 254 → (b : ℕ) × (b < a) × (behind_entry next far (row + b) ≡ least)

pub least-none : (next far : List ℕ) (row : ℕ) → Least next far row 0 254
least-none next far row = record { small = omega arith; below = λ b h. absurd (omega arith); found = λ h. absurd (omega arith) }

pub least_more : (next far : List ℕ) (row a least x r : ℕ) → Least next far row a least → x ≡ behind_entry next far (row + a) → r ≡ min least x
    → Least next far row (a + 1) r
least_more next far row a least x r l e h = record { small = omega (arith, l.small); below = below; found = found }
  where
    below : (b : ℕ) → b < a + 1 → r ≤ behind_entry next far (row + b)
    below b g = elim (ℕ_discrete b a) [ yes p ↦ rw p (omega arith) | no p ↦ omega (arith, l.below b (omega arith)) ]

    found : r < 254 → (b : ℕ) × (b < a + 1) × (behind_entry next far (row + b) ≡ r)
    found g =
        elim (dec_lt r least) [
          | yes p ↦ (a, omega arith, omega arith)
          | no p ↦ let q : r ≡ least = omega arith in let f = l.found (omega arith) in (f.0, omega (arith, f.1), f.2 ∙ sym q)
        ]

pub least-further : (next far : List ℕ) (row actions least : ℕ) → Least next far row actions least → OneFurther next far row actions (least + 1)
least-further next far row actions least l =
    record {
      small = omega (arith, l.small);
      least = λ a h. omega (arith, l.below a h);
      found = λ h. let f = l.found (omega arith) in (f.0, f.1, omega (arith, f.2));
    }
