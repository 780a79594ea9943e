-- Laws of a step, one for all calls: it is determined, it is carried out exactly when every check passes, and a refusal or a denial changes nothing.
-- Assumes nothing.
use mathlib.Core.Path.{◌≡◌, refl, sym, ◌∙◌, ap}
use mathlib.Core.Bool.{true, false}
use mathlib.Core.List.{List, ◌∷◌}
use mathlib.Core.Logic.{◌↔◌}
use Prim.Native.Nat.{ℕ, ◌<◌}
use native.Mathlib.Decide.{ℕ_discrete, dec_lt}
use native.Mathlib.Omega.{arith}
use Rattle.trace.proofs.Laws.{not-both}
use Rattle.view.specs.View.{View, Change, stays}
use Rattle.view.specs.Moves.{denies_at, NoneDenies}
use Rattle.view.specs.Steps.{Call, Reply, done, permitted, denied, input, state, changes, is_refusal, Check, short-area, no_place, impossible, place-taken, place-empty, malformed, misnumbered}
use Rattle.view.specs.Steps.{other-actions, board-empty, no-action, refusal, checks_of, Passes, AllPass, Carries, puts, takes, is-denied, is-permitted}
use Rattle.view.specs.Steps.{Answers, refused, passed, carried, CallStep}

-- a check's answer is a refusal, which changes nothing
pub refusal-refuses : (check : Check) → is_refusal (refusal check) ≡ true
refusal-refuses short-area = refl
refusal-refuses (no_place place) = refl
refusal-refuses impossible = refl
refusal-refuses (place-taken place) = refl
refusal-refuses (place-empty place) = refl
refusal-refuses (malformed table) = refl
refusal-refuses (misnumbered table) = refl
refusal-refuses (other-actions table) = refl
refusal-refuses board-empty = refl
refusal-refuses (no-action action) = refl

pub refusal-keeps : (reply : Reply) → is_refusal reply ≡ true → changes reply ≡ false
refusal-keeps done e = not-both (sym e)
refusal-keeps (permitted set) e = not-both (sym e)
refusal-keeps (denied place) e = refl
refusal-keeps (input number spot) e = refl
refusal-keeps (state number) e = refl

-- How checks end: one refuses, with nothing changed, or all pass and the call is carried out.
pub data Ends (Pass : Check → Type 0) (Carried : Reply → Change → Type 0) (checks : List Check) (reply : Reply) (change : Change) : Type 0 where
  is-refused : (check : Check) → (Pass check → ⊥) → reply ≡ refusal check → change ≡ stays → Ends Pass Carried checks reply change
  is_carried : AllPass Pass checks → Carried reply change → Ends Pass Carried checks reply change

module _ {Pass : Check → Type 0} {Carried : Reply → Change → Type 0} where
  pub ends : {reply : Reply} {change : Change} {checks : List Check} → Answers Pass Carried reply change checks → Ends Pass Carried checks reply change
  ends (refused {check = check} n r c) = is-refused check n r c
  ends (passed {check = check} {rest = rest} p a) = more (ends a)
    where
      more : {reply : Reply} {change : Change} → Ends Pass Carried rest reply change → Ends Pass Carried (check ∷ rest) reply change
      more (is-refused other n r c) = is-refused other n r c
      more (is_carried all d) = is_carried (p, all) d
  ends (carried d) = is_carried tt d

  pub all-carried : {reply : Reply} {change : Change} {checks : List Check} → Answers Pass Carried reply change checks → AllPass Pass checks → Carried reply change
  all-carried (refused n r c) all = absurd (n all.0)
  all-carried (passed p a) all = all-carried a all.1
  all-carried (carried d) all = d

  answers-determined : ((r r' : Reply) (c c' : Change) → Carried r c → Carried r' c' → (r ≡ r') × (c ≡ c')) → {r r' : Reply} {c c' : Change} {checks : List Check}
      → Answers Pass Carried r c checks → Answers Pass Carried r' c' checks → (r ≡ r') × (c ≡ c')
  answers-determined same (refused n r c) (refused m s d) = (r ∙ sym s, c ∙ sym d)
  answers-determined same (refused n r c) (passed p b) = absurd (n p)
  answers-determined same (passed p a) (refused n r c) = absurd (n p)
  answers-determined same (passed p a) (passed q b) = answers-determined same a b
  answers-determined same (carried d) (carried e) = same _ _ _ _ d e

  -- checks that pass alike answer alike
  pub passed-alike : {Other : Check → Type 0} → ((check : Check) → Pass check ↔ Other check) → {reply : Reply} {change : Change} {checks : List Check}
      → Answers Pass Carried reply change checks → Answers Other Carried reply change checks
  passed-alike same (refused {check = check} n r c) = refused (λ p. n ((same check).1 p)) r c
  passed-alike same (passed {check = check} p a) = passed ((same check).0 p) (passed-alike same a)
  passed-alike same (carried d) = carried d

one-lowest : {A : Type 0} (view : View) (action i j : ℕ) → denies_at view action i ≡ true → NoneDenies view action j → i < j → A
one-lowest view action i j d n l = not-both (sym d ∙ n i l)

module _ {places : ℕ} {view : View} where
  -- what is done is determined
  carries-determined : {call : Call} {r r' : Reply} {c c' : Change} → Carries places view call r c → Carries places view call r' c' → (r ≡ r') × (c ≡ c')
  carries-determined puts puts = (refl, refl)
  carries-determined takes takes = (refl, refl)
  carries-determined (is-denied {action = action} i h d n) (is-denied j g e m) = (same (ℕ_discrete i j), refl)
    where
      same : Dec (i ≡ j) → denied i ≡ denied j
      same (yes p) = ap denied p
      same (no q) = elim (dec_lt i j) [ yes l ↦ one-lowest view action i j d m l | no l ↦ one-lowest view action j i e n (omega arith) ]
  carries-determined (is-denied {action = action} i h d n) (is-permitted m) = one-lowest view action i places d m h
  carries-determined (is-permitted n) (is-denied {action = action} j g e m) = one-lowest view action j places e n g
  carries-determined (is-permitted n) (is-permitted m) = (refl, refl)

  -- it is no refusal, and changes nothing where it is a denial
  carried-answers : {call : Call} {reply : Reply} {change : Change} → Carries places view call reply change → is_refusal reply ≡ false
  carried-answers puts = refl
  carried-answers takes = refl
  carried-answers (is-denied i h d n) = refl
  carried-answers (is-permitted n) = refl

  carried-unchanged : {call : Call} {reply : Reply} {change : Change} → Carries places view call reply change → changes reply ≡ false → change ≡ stays
  carried-unchanged puts e = not-both e
  carried-unchanged takes e = not-both e
  carried-unchanged (is-denied i h d n) e = refl
  carried-unchanged (is-permitted n) e = not-both e

  module _ {Long CanBe : Type 0} {call : Call} where
    -- From one view, with the same inputs, there is one answer and one change.
    pub step-determined : {r r' : Reply} {c c' : Change} → CallStep Long CanBe places view call r c → CallStep Long CanBe places view call r' c' → (r ≡ r') × (c ≡ c')
    step-determined = answers-determined (λ r r' c c' d e. carries-determined d e)

    module _ {reply : Reply} {change : Change} (s : CallStep Long CanBe places view call reply change) where
      -- A call is carried out exactly when no refusal stated for it applies.
      pub step-exactly : (is_refusal reply ≡ false) ↔ AllPass (Passes Long CanBe places view) (checks_of call)
      step-exactly = (λ e. by (ends s) e, λ all. carried-answers (all-carried s all))
        where
          by : Ends (Passes Long CanBe places view) (Carries places view call) (checks_of call) reply change → is_refusal reply ≡ false
              → AllPass (Passes Long CanBe places view) (checks_of call)
          by (is-refused check n r c) e = not-both (sym (refusal-refuses check) ∙ sym (ap is_refusal r) ∙ e)
          by (is_carried all d) e = all

      -- A refusal and a denial change nothing.
      pub step-unchanged : changes reply ≡ false → change ≡ stays
      step-unchanged e = by (ends s)
        where
          by : Ends (Passes Long CanBe places view) (Carries places view call) (checks_of call) reply change → change ≡ stays
          by (is-refused check n r c) = c
          by (is_carried all d) = carried-unchanged d e

-- What 14 and 25 ask is a parameter: where the same passes, the same is answered.
pub step-guards : {Long Long' CanBe CanBe' : Type 0} → Long ↔ Long' → CanBe ↔ CanBe' → {places : ℕ} {view : View} {call : Call} {reply : Reply} {change : Change}
    → CallStep Long CanBe places view call reply change → CallStep Long' CanBe' places view call reply change
step-guards {Long} {Long'} {CanBe} {CanBe'} long can {places} {view} = passed-alike same
  where
    same : (check : Check) → Passes Long CanBe places view check ↔ Passes Long' CanBe' places view check
    same short-area = long
    same (no_place place) = (λ p. p, λ p. p)
    same impossible = can
    same (place-taken place) = (λ p. p, λ p. p)
    same (place-empty place) = (λ p. p, λ p. p)
    same (malformed table) = (λ p. p, λ p. p)
    same (misnumbered table) = (λ p. p, λ p. p)
    same (other-actions table) = (λ p. p, λ p. p)
    same board-empty = (λ p. p, λ p. p)
    same (no-action action) = (λ p. p, λ p. p)

-- So both ask nothing where what they ask holds.
pub step_past : {Long CanBe : Type 0} → Long → CanBe → {places : ℕ} {view : View} {call : Call} {reply : Reply} {change : Change}
    → CallStep Long CanBe places view call reply change → CallStep (Unit {0}) (Unit {0}) places view call reply change
step_past long can = step-guards (λ p. tt, λ u. long) (λ p. tt, λ u. can)
