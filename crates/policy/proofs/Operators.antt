-- The operators of the meanings in plain quantifiers: some suffix, every suffix, first fulfilment, what is left without some actions.
-- Assumes nothing.
use mathlib.Core.Path.{◌≡◌, refl, sym, ◌∙◌, ap, ap₂}
use mathlib.Core.Logic.{◌↔◌}
use mathlib.Core.Bool.{Bool, true, false, cond, not, ◌&&◌, ◌||◌}
use mathlib.Core.List.{List, [], ◌∷◌, ◌++◌}
use mathlib.Core.Option.{Option, none, some}
use Prim.Native.Nat.{ℕ, zero, suc, ◌≤◌, ◌<◌, zero-le, suc-le-suc}
use native.Mathlib.Nat.{le_of_suc-le-suc, not-suc-le-zero, zero-lt-suc}
use lib.ListN.{length, take, drop}
use Rattle.trace.proofs.Laws.{not-both}
use Rattle.policy.specs.Operators.{Property, some_suffix, every_suffix, one_more, first, without}
use Rattle.policy.specs.Waits.{Shortest}

-- tests
or_left : (b c : Bool) → b ≡ true → (b || c) ≡ true
or_left true c e = refl
or_left false c e = not-both (sym e)

or_right : (b c : Bool) → c ≡ true → (b || c) ≡ true
or_right true c e = refl
or_right false c e = e

and_left : (b c : Bool) → (b && c) ≡ true → b ≡ true
and_left true c e = refl
and_left false c e = e

and_right : (b c : Bool) → (b && c) ≡ true → c ≡ true
and_right true c e = e
and_right false c e = not-both (sym e)

and_both : (b c : Bool) → b ≡ true → c ≡ true → (b && c) ≡ true
and_both true c d e = e
and_both false c d e = d

-- de Morgan
pub not-or : (b c : Bool) → not (b || c) ≡ (not b && not c)
not-or true c = refl
not-or false c = refl

pub not-and : (b c : Bool) → not (b && c) ≡ (not b || not c)
not-and true c = refl
not-and false c = refl

pub not-not : (b : Bool) → not (not b) ≡ b
not-not true = refl
not-not false = refl

-- some suffix
has-suffix : (P : Property) (w : List ℕ) → some_suffix P w ≡ true → (n : ℕ) × (n ≤ length w) × (P (drop n w) ≡ true)
has-suffix P [] e = (0, zero-le, e)
has-suffix P (a ∷ w) e = pick (P (a ∷ w)) refl (has-suffix P w) e
  where
    pick : (b : Bool) → P (a ∷ w) ≡ b
        → (some_suffix P w ≡ true → (n : ℕ) × (n ≤ length w) × (P (drop n w) ≡ true))
        → (b || some_suffix P w) ≡ true → (n : ℕ) × (n ≤ suc (length w)) × (P (drop n (a ∷ w)) ≡ true)
    pick true p k e = (0, zero-le, p)
    pick false p k e = (suc (k e).0, suc-le-suc (k e).1, (k e).2)

is-suffix : (P : Property) (w : List ℕ) (n : ℕ) → P (drop n w) ≡ true → some_suffix P w ≡ true
is-suffix P [] zero e = e
is-suffix P [] (suc n) e = e
is-suffix P (a ∷ w) zero e = or_left (P (a ∷ w)) (some_suffix P w) e
is-suffix P (a ∷ w) (suc n) e = or_right (P (a ∷ w)) (some_suffix P w) (is-suffix P w n e)

pub some-suffix : (P : Property) (w : List ℕ) → some_suffix P w ≡ true ↔ (n : ℕ) × (n ≤ length w) × (P (drop n w) ≡ true)
some-suffix P w = (has-suffix P w, λ h. is-suffix P w h.0 h.2)

-- every suffix
each-suffix : (P : Property) (w : List ℕ) (n : ℕ) → every_suffix P w ≡ true → P (drop n w) ≡ true
each-suffix P [] zero e = e
each-suffix P [] (suc n) e = e
each-suffix P (a ∷ w) zero e = and_left (P (a ∷ w)) (every_suffix P w) e
each-suffix P (a ∷ w) (suc n) e = each-suffix P w n (and_right (P (a ∷ w)) (every_suffix P w) e)

all-suffixes : (P : Property) (w : List ℕ) → ((n : ℕ) → n ≤ length w → P (drop n w) ≡ true) → every_suffix P w ≡ true
all-suffixes P [] h = h 0 zero-le
all-suffixes P (a ∷ w) h =
    and_both (P (a ∷ w)) (every_suffix P w) (h 0 zero-le) (all-suffixes P w (λ n g. h (suc n) (suc-le-suc g)))

pub every-suffix : (P : Property) (w : List ℕ) → every_suffix P w ≡ true ↔ ((n : ℕ) → n ≤ length w → P (drop n w) ≡ true)
every-suffix P w = (λ e n h. each-suffix P w n e, all-suffixes P w)

pub every-not-some : (P : Property) (w : List ℕ) → every_suffix P w ≡ not (some_suffix (λ u. not (P u)) w)
every-not-some P [] = sym (not-not (P []))
every-not-some P (a ∷ w) =
    ap₂ (λ (b c : Bool). b && c) (sym (not-not (P (a ∷ w)))) (every-not-some P w)
    ∙ sym (not-or (not (P (a ∷ w))) (some_suffix (λ u. not (P u)) w))

-- first fulfilment: how a longer sequence's comes from its tail's
at_once : (b : Bool) (r : Option ℕ) → cond b (some 0) (one_more r) ≡ some 0 → b ≡ true
at_once true r e = refl
at_once false none e = cc
at_once false (some n) e = cc

later : (b : Bool) (r : Option ℕ) (n : ℕ) → cond b (some 0) (one_more r) ≡ some (suc n) → (b ≡ false) × (r ≡ some n)
later true r n e = (cc, cc)
later false none n e = (refl, cc)
later false (some m) n e = (refl, cc)

never : (b : Bool) (r : Option ℕ) → cond b (some 0) (one_more r) ≡ none → (b ≡ false) × (r ≡ none)
never true r e = (cc, cc)
never false none e = (refl, refl)
never false (some m) e = (cc, cc)

none-some : {A : Type 0} {n : ℕ} → ◌≡◌ {A = Option ℕ} none (some n) → A
none-some e = cc

shortest : (w : List ℕ) (P : Property) (n : ℕ) → first P w ≡ some n → Shortest P w n
shortest [] P zero e = (zero-le, at_once (P []) none e, λ m h. absurd (not-suc-le-zero h))
shortest [] P (suc n) e = none-some (later (P []) none n e).1
shortest (a ∷ w) P zero e = (zero-le, at_once (P []) (first (λ u. P (a ∷ u)) w) e, λ m h. absurd (not-suc-le-zero h))
shortest (a ∷ w) P (suc n) e =
    longer (later (P []) (first (λ u. P (a ∷ u)) w) n e).0
    (shortest w (λ u. P (a ∷ u)) n (later (P []) (first (λ u. P (a ∷ u)) w) n e).1)
  where
    longer : P [] ≡ false → Shortest (λ u. P (a ∷ u)) w n → Shortest P (a ∷ w) (suc n)
    longer p h = (suc-le-suc h.0, h.1, before)
      where
        before : (m : ℕ) → m < suc n → P (take m (a ∷ w)) ≡ false
        before zero g = p
        before (suc m) g = h.2 m (le_of_suc-le-suc g)

is-first : (w : List ℕ) (P : Property) (n : ℕ) → Shortest P w n → first P w ≡ some n
is-first [] P zero h = rw h.1 refl
is-first [] P (suc n) h = absurd (not-suc-le-zero h.0)
is-first (a ∷ w) P zero h = rw h.1 refl
is-first (a ∷ w) P (suc n) h =
    ap₂ (λ (b : Bool) (r : Option ℕ). cond b (some 0) (one_more r)) (h.2 0 (zero-lt-suc n))
    (is-first w (λ u. P (a ∷ u)) n (le_of_suc-le-suc h.0, h.1, λ m g. h.2 (suc m) (suc-le-suc g)))

pub first_some : (P : Property) (w : List ℕ) (n : ℕ) → first P w ≡ some n ↔ Shortest P w n
first_some P w n = (shortest w P n, is-first w P n)

no-prefix : (w : List ℕ) (P : Property) → first P w ≡ none → (n : ℕ) → P (take n w) ≡ false
no-prefix [] P e zero = (never (P []) none e).0
no-prefix [] P e (suc n) = (never (P []) none e).0
no-prefix (a ∷ w) P e zero = (never (P []) (first (λ u. P (a ∷ u)) w) e).0
no-prefix (a ∷ w) P e (suc n) = no-prefix w (λ u. P (a ∷ u)) (never (P []) (first (λ u. P (a ∷ u)) w) e).1 n

not_first : (w : List ℕ) (P : Property) → ((n : ℕ) → n ≤ length w → P (take n w) ≡ false) → first P w ≡ none
not_first [] P h = rw (h 0 zero-le) refl
not_first (a ∷ w) P h =
    ap₂ (λ (b : Bool) (r : Option ℕ). cond b (some 0) (one_more r)) (h 0 zero-le)
    (not_first w (λ u. P (a ∷ u)) (λ n g. h (suc n) (suc-le-suc g)))

pub first-none : (P : Property) (w : List ℕ) → first P w ≡ none ↔ ((n : ℕ) → n ≤ length w → P (take n w) ≡ false)
first-none P w = (λ e n h. no-prefix w P e n, not_first w P)

-- without the actions of `hit`: an action by itself stays or goes, and the sequence is read action by action
pub without-hit : (hit : ℕ → Bool) (a : ℕ) → hit a ≡ true → without hit (a ∷ []) ≡ []
without-hit hit a e = rw e refl

pub without_other : (hit : ℕ → Bool) (a : ℕ) → hit a ≡ false → without hit (a ∷ []) ≡ a ∷ []
without_other hit a e = rw e refl

pub without-append : (hit : ℕ → Bool) (v w : List ℕ) → without hit (v ++ w) ≡ without hit v ++ without hit w
without-append hit [] w = refl
without-append hit (a ∷ v) w = joined (hit a) (without-append hit v w)
  where
    joined : (b : Bool) → without hit (v ++ w) ≡ without hit v ++ without hit w
        → cond b (without hit (v ++ w)) (a ∷ without hit (v ++ w)) ≡ cond b (without hit v) (a ∷ without hit v) ++ without hit w
    joined true e = e
    joined false e = ap {B = List ℕ} (λ r. a ∷ r) e
