-- Every rule keeps what its parts have: none trips at the empty sequence, and a trip stays however the sequence goes on.
-- Assumes nothing.
use mathlib.Core.Path.{◌≡◌, refl, sym, ◌∙◌, ap}
use mathlib.Core.Bool.{Bool, true, false, cond, ◌&&◌, ◌||◌}
use mathlib.Core.List.{List, [], ◌∷◌, ◌++◌}
use mathlib.Core.Option.{none, some}
use Prim.Native.Nat.{ℕ, zero, suc, ◌≤◌}
use native.Mathlib.Omega.{arith}
use lib.Dec.{leb}
use lib.ListN.{length, length-append}
use borrow.Author.Tests.{leb-true, le-leb, lt-leb}
use Rattle.trace.specs.Trace.{Move, trip, go, run, tripped}
use Rattle.trace.proofs.Laws.{not-both, run-trip, run-append}
use Rattle.policy.specs.Operators.{Property, first_action, some_suffix, one_more, first, up_to, following, without}
use Rattle.policy.specs.Rule.{Rule, opening-r, count-r, same-r, both_r, either_r, copied-r, before-r, after-r, fulfilling-r, ignoring-r, fulfilling_trips, rule_trips}
use Rattle.policy.specs.Parts.{AllParts, Positive}
use Rattle.policy.specs.Lasting.{Lasting}
use Rattle.policy.specs.Value.{Part, part_trips}
use Rattle.policy.proofs.Operators.{without-append}
use Rattle.policy.proofs.Residual.{first-now, first-empty, up-to-later, following-later, late-empty, fulfilling-later, fulfilling-now, fulfilling-over}

-- a machine's trip stays
pub part-lasting : (f : Part) → Lasting (part_trips f)
part-lasting f = record { empty = refl; stays = λ w u e. rw (run-append f (go 0) w u) (stays (run f (go 0) w) u e) }
  where
    stays : (m : Move ℕ) (u : List ℕ) → tripped m ≡ true → tripped (run f m u) ≡ true
    stays trip u e = rw (run-trip f u) refl
    stays (go r) u e = not-both (sym e)

opening-lasting : (hit : ℕ → Bool) → Lasting (first_action false hit)
opening-lasting hit = record { empty = refl; stays = stays }
  where
    stays : (w u : List ℕ) → first_action false hit w ≡ true → first_action false hit (w ++ u) ≡ true
    stays [] u e = not-both (sym e)
    stays (a ∷ w) u e = e

count-lasting : (k : ℕ) → 1 ≤ k → Lasting (λ w. leb k (length w))
count-lasting k h = record { empty = lt-leb k 0 h; stays = λ w u e. le-leb k (length (w ++ u)) (omega (arith, leb-true k (length w) e, length-append w u)) }

and-stays : (b c d e : Bool) → (b ≡ true → d ≡ true) → (c ≡ true → e ≡ true) → (b && c) ≡ true → (d && e) ≡ true
and-stays true true d e f g h = rw (f refl, g refl) refl
and-stays true false d e f g h = not-both (sym h)
and-stays false c d e f g h = not-both (sym h)

or-stays : (b c d e : Bool) → (b ≡ true → d ≡ true) → (c ≡ true → e ≡ true) → (b || c) ≡ true → (d || e) ≡ true
or-stays true c d e f g h = rw (f refl) refl
or-stays false c true e f g h = refl
or-stays false c false e f g h = g h

module _ (P Q : Property) (lp : Lasting P) (lq : Lasting Q) where
  both-lasting : Lasting (λ w. P w && Q w)
  both-lasting =
      record {
        empty = rw lp.empty refl;
        stays = λ w u. and-stays (P w) (Q w) (P (w ++ u)) (Q (w ++ u)) (lp.stays w u) (lq.stays w u);
      }

  either-lasting : Lasting (λ w. P w || Q w)
  either-lasting =
      record {
        empty = rw lp.empty lq.empty;
        stays = λ w u. or-stays (P w) (Q w) (P (w ++ u)) (Q (w ++ u)) (lp.stays w u) (lq.stays w u);
      }

copied-lasting : (P : Property) → Lasting P → Lasting (some_suffix P)
copied-lasting P l = record { empty = l.empty; stays = stays }
  where
    stays : (w u : List ℕ) → some_suffix P w ≡ true → some_suffix P (w ++ u) ≡ true
    stays [] u e = not-both (sym e ∙ l.empty)
    stays (a ∷ w) u e =
        or-stays (P (a ∷ w)) (some_suffix P w) (P (a ∷ (w ++ u))) (some_suffix P (w ++ u)) (l.stays (a ∷ w) u) (stays w u) e

-- the prefix up to the first fulfilment only grows
up-to-grows : (w u : List ℕ) (P : Property) → (v : List ℕ) × (up_to (first P (w ++ u)) (w ++ u) ≡ up_to (first P w) w ++ v)
up-to-grows [] u P = nothing (P []) refl
  where
    nothing : (b : Bool) → P [] ≡ b → (v : List ℕ) × (up_to (first P u) u ≡ up_to (first P []) [] ++ v)
    nothing true e = ([], rw (first-now P u e, e) refl)
    nothing false e = (up_to (first P u) u, rw (first-empty P e) refl)
up-to-grows (a ∷ w) u P = grows (P []) refl (up-to-grows w u (λ v. P (a ∷ v)))
  where
    grows : (b : Bool) → P [] ≡ b
        → (v : List ℕ) × (up_to (first (λ v. P (a ∷ v)) (w ++ u)) (w ++ u) ≡ up_to (first (λ v. P (a ∷ v)) w) w ++ v)
        → (v : List ℕ) × (up_to (first P (a ∷ (w ++ u))) (a ∷ (w ++ u)) ≡ up_to (first P (a ∷ w)) (a ∷ w) ++ v)
    grows true e h = ([], rw e refl)
    grows false e h = (h.0, rw (e, up-to-later (first (λ v. P (a ∷ v)) (w ++ u)) a (w ++ u), up-to-later (first (λ v. P (a ∷ v)) w) a w) (ap {B = List ℕ} (λ r. a ∷ r) h.1))

before-lasting : (P Q : Property) → Lasting P → Lasting Q → Lasting (λ w. Q (up_to (first P w) w))
before-lasting P Q lp lq = record { empty = rw lp.empty lq.empty; stays = stays }
  where
    stays : (w u : List ℕ) → Q (up_to (first P w) w) ≡ true → Q (up_to (first P (w ++ u)) (w ++ u)) ≡ true
    stays w u e = let h = up-to-grows w u P in rw h.1 (lq.stays (up_to (first P w) w) h.0 e)

after-stays : (Q : Property) → Lasting Q → (w u : List ℕ) (P : Property)
    → following false (first P w) Q w ≡ true → following false (first P (w ++ u)) Q (w ++ u) ≡ true
after-stays Q l [] u P e = nothing (P []) e
  where
    nothing : (b : Bool) → following false (cond b (some 0) none) Q [] ≡ true → following false (first P u) Q u ≡ true
    nothing true e = not-both (sym e ∙ l.empty)
    nothing false e = not-both (sym e)
after-stays Q l (a ∷ w) u P e = stays (P []) (after-stays Q l w u (λ v. P (a ∷ v))) e
  where
    stays : (b : Bool)
        → (following false (first (λ v. P (a ∷ v)) w) Q w ≡ true → following false (first (λ v. P (a ∷ v)) (w ++ u)) Q (w ++ u) ≡ true)
        → following false (cond b (some 0) (one_more (first (λ v. P (a ∷ v)) w))) Q (a ∷ w) ≡ true
        → following false (cond b (some 0) (one_more (first (λ v. P (a ∷ v)) (w ++ u)))) Q (a ∷ (w ++ u)) ≡ true
    stays true h e = l.stays (a ∷ w) u e
    stays false h e = rw following-later (h (rw following-later at e))

after-lasting : (P Q : Property) → Lasting P → Lasting Q → Lasting (λ w. following false (first P w) Q w)
after-lasting P Q lp lq = record { empty = rw lp.empty refl; stays = λ w u. after-stays Q lq w u P }

module _ (Q R : Property) (lq : Lasting Q) (lr : Lasting R) (u : List ℕ) where
  abbrev FulfillingStays : List ℕ → ℕ → Property → Type 0
  FulfillingStays w k P = fulfilling_trips k (first P w) Q R w ≡ true → fulfilling_trips k (first P (w ++ u)) Q R (w ++ u) ≡ true

  fulfilling-stays : (w : List ℕ) (k : ℕ) (P : Property) → FulfillingStays w k P
  fulfilling-stays [] k P = by (P []) refl k
    where
      by : (b : Bool) → P [] ≡ b → (k : ℕ) → FulfillingStays [] k P
      by true p k e = not-both (sym e ∙ fulfilling-now k P Q R [] p ∙ lq.empty)
      by false p zero e = not-both (sym e ∙ fulfilling-over P Q R [] p ∙ lr.empty)
      by false p (suc k) e = not-both (sym e ∙ rw p (late-empty k R))
  fulfilling-stays (a ∷ w) k P = by (P []) refl k (λ j. fulfilling-stays w j (λ v. P (a ∷ v)))
    where
      by : (b : Bool) → P [] ≡ b → (k : ℕ) → ((j : ℕ) → FulfillingStays w j (λ v. P (a ∷ v))) → FulfillingStays (a ∷ w) k P
      by true p k h e = rw (fulfilling-now k P Q R (a ∷ (w ++ u)) p) (lq.stays (a ∷ w) u (rw (fulfilling-now k P Q R (a ∷ w) p) at e))
      by false p zero h e = rw (fulfilling-over P Q R (a ∷ (w ++ u)) p) (lr.stays (a ∷ w) u (rw (fulfilling-over P Q R (a ∷ w) p) at e))
      by false p (suc k) h e = rw (p, fulfilling-later k) (h k (rw (p, fulfilling-later k) at e))

fulfilling-lasting : (k : ℕ) (P Q R : Property) → Lasting P → Lasting Q → Lasting R → Lasting (λ w. fulfilling_trips k (first P w) Q R w)
fulfilling-lasting k P Q R lp lq lr = record { empty = empty k; stays = λ w u. fulfilling-stays Q R lq lr u w k P }
  where
    empty : (k : ℕ) → fulfilling_trips k (first P []) Q R [] ≡ false
    empty zero = fulfilling-over P Q R [] lp.empty ∙ lr.empty
    empty (suc k) = rw lp.empty (late-empty k R)

ignoring-lasting : (hit : ℕ → Bool) (P : Property) → Lasting P → Lasting (λ w. P (without hit w))
ignoring-lasting hit P l =
    record { empty = l.empty; stays = λ w u e. rw (without-append hit w u) (l.stays (without hit w) (without hit u) e) }

pub rule-lasting : (rule : Rule Property) → Positive rule → AllParts Lasting rule → Lasting (rule_trips rule)
rule-lasting (opening-r hit) p l = opening-lasting hit
rule-lasting (count-r k) p l = count-lasting k p
rule-lasting (same-r a) p l = l
rule-lasting (both_r a b) p l = both-lasting a b l.0 l.1
rule-lasting (either_r a b) p l = either-lasting a b l.0 l.1
rule-lasting (copied-r a) p l = copied-lasting a l
rule-lasting (before-r a b) p l = before-lasting a b l.0 l.1
rule-lasting (after-r a b) p l = after-lasting a b l.0 l.1
rule-lasting (fulfilling-r k a b c) p l = fulfilling-lasting k a b c l.0 l.1 l.2
rule-lasting (ignoring-r hit a) p l = ignoring-lasting hit a l
