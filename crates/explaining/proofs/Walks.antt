-- Lists of actions, and reading them one action after the other.
-- Assumes nothing.
use mathlib.Core.Path.{◌≡◌, refl, sym, ◌∙◌, ap, subst}
use mathlib.Core.Bool.{Bool, true, false}
use mathlib.Core.List.{List, [], ◌∷◌, ◌++◌}
use Prim.Native.Nat.{ℕ, zero, suc, ◌≤◌, ◌<◌}
use native.Mathlib.Decide.{dec_lt}
use native.Mathlib.Omega.{arith}
use lib.ListN.{length, get_or, take, drop, take-append-drop}
use lib.Seq.{take-suc, take_all, take-take}
use Rattle.std.specs.Prelude.{Option, Some, None}
use Rattle.std.specs.Option.{is_some}
use Rattle.std.specs.List.{All}
use Rattle.std.specs.Bool.{Decides as AllDecides}
use Rattle.base.specs.Build.{Decides}
use Rattle.trace.specs.Trace.{Sequence, Move, trip, go, Step, after, run, tripped, trips}
use Rattle.trace.proofs.Laws.{not-both, run-append}
use Rattle.policy.proofs.Lasting.{part-lasting}
use Rattle.explaining.specs.Denials.{NotAnAction}
use Rattle.explaining.specs.Reading.{TripsAt, FirstTrip}

module _ (actions : ℕ) where
  -- a sequence is a list of numbers below the number of actions
  pub sequence-all : (w : List ℕ) → Sequence actions w → All (λ a. a < actions) w
  sequence-all [] s i d h = absurd (omega arith)
  sequence-all (a ∷ w) s zero d h = s.0
  sequence-all (a ∷ w) s (suc i) d h = sequence-all w s.1 i d (omega arith)

  all-sequence : (w : List ℕ) → All (λ a. a < actions) w → Sequence actions w
  all-sequence [] h = tt
  all-sequence (a ∷ w) h = (h 0 0 (omega arith), all-sequence w (λ i d g. h (suc i) d (omega arith)))

  pub sequence-decided : (w : List ℕ) (b : Bool) → AllDecides b (All (λ a. a < actions) w) → Decides (Sequence actions w) b
  sequence-decided w true d = all-sequence w (d.0 refl)
  sequence-decided w false d = λ s. let e : false ≡ true = d.1 (sequence-all w s) in cc

  -- a list that is none has a number that is no action
  pub not-sequence : (w : List ℕ) → (Sequence actions w → ⊥) → NotAnAction actions w
  not-sequence [] n = absurd (n tt)
  not-sequence (a ∷ w) n = elim (dec_lt a actions) [ yes h ↦ later (not-sequence w (λ s. n (h, s))) | no h ↦ record { place = 0; inside = omega arith; beyond = omega arith } ]
    where
      later : NotAnAction actions w → NotAnAction actions (a ∷ w)
      later b = record { place = suc b.place; inside = let h = b.inside in omega arith; beyond = b.beyond }

-- one more action
pub run-one : (f : Step ℕ) (w : List ℕ) (i : ℕ) → i < length w → run f (go 0) (take (suc i) w) ≡ after (run f (go 0) (take i w)) (λ v. f v (get_or w i 0))
run-one f w i h = ap (run f (go 0)) (take-suc w i 0 h) ∙ run-append f (go 0) (take i w) (get_or w i 0 ∷ [])

module _ (f : Step ℕ) (w : List ℕ) (i row action : ℕ) (inside : i < length w) (here : run f (go 0) (take i w) ≡ go row) (is : action ≡ get_or w i 0) where
  -- the next action goes on, or trips
  pub next-move : run f (go 0) (take (suc i) w) ≡ f row action
  next-move = run-one f w i inside ∙ ap (λ (m : Move ℕ). after m (λ v. f v (get_or w i 0))) here ∙ ap (f row) (sym is)

  pub trips-here : f row action ≡ trip → TripsAt f w i
  trips-here e = record { inside = inside; before = ap tripped here; at = ap tripped (next-move ∙ e) }

-- where all actions of a list go on, it does not trip
pub trips-nowhere : (f : Step ℕ) (w : List ℕ) (i : ℕ) {row : ℕ} → length w ≤ i → run f (go 0) (take i w) ≡ go row → trips f 0 w ≡ false
trips-nowhere f w i {row} h e = ap tripped (subst (λ (l : List ℕ). run f (go 0) l ≡ go row) (take_all i w h) e)

-- where it trips at a place, the whole list does, as a trip stays
pub whole-tripped : {f : Step ℕ} {w : List ℕ} {k : ℕ} → TripsAt f w k → trips f 0 w ≡ true
whole-tripped {f} {w} {k} t = subst (λ (l : List ℕ). trips f 0 l ≡ true) (take-append-drop (suc k) w) ((part-lasting f).stays (take (suc k) w) (drop (suc k) w) t.at)

-- whether the whole list trips
pub tripped-at : (f : Step ℕ) (w : List ℕ) (o : Option ℕ) → FirstTrip f w o → is_some o ≡ true → trips f 0 w ≡ true
tripped-at f w (Some k) t e = whole-tripped t
tripped-at f w None t e = cc

pub untripped-at : (f : Step ℕ) (w : List ℕ) (o : Option ℕ) → FirstTrip f w o → (is_some o ≡ true → ⊥) → trips f 0 w ≡ false
untripped-at f w (Some k) t n = absurd (n refl)
untripped-at f w None t n = t

-- no front of a list that does not trip does
pub front-untripped : (f : Step ℕ) (w : List ℕ) (k n : ℕ) → k ≤ n → trips f 0 (take n w) ≡ false → trips f 0 (take k w) ≡ false
front-untripped f w k n h e = by (trips f 0 (take k w)) refl
  where
    by : (b : Bool) → trips f 0 (take k w) ≡ b → trips f 0 (take k w) ≡ false
    by false q = q
    by true q =
        not-both
        (sym ((part-lasting f).stays (take k w) (drop k (take n w)) q)
        ∙ ap (trips f 0) (ap (λ (l : List ℕ). l ++ drop k (take n w)) (sym (take-take k n w h)) ∙ take-append-drop k (take n w))
        ∙ e)
