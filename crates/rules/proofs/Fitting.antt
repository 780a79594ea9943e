-- A rule that fits remembers values that fit, so that its step on numbers reads every sequence as its step on values does.
-- Assumes nothing.
use mathlib.Core.Path.{◌≡◌, refl, ◌∙◌, ap}
use mathlib.Core.Bool.{Bool, true, false, cond}
use mathlib.Core.List.{List, [], ◌∷◌}
use mathlib.Core.Option.{Option, none, some}
use Prim.Native.Nat.{ℕ, ◌≤◌, ◌<◌}
use native.Mathlib.Omega.{arith}
use lib.Dec.{leb}
use lib.ListN.{length, drop}
use borrow.Author.Tests.{leb-false}
use Rattle.trace.specs.Trace.{Move, trip, go, after, run, tripped, trips}
use Rattle.policy.specs.Operators.{first, without}
use Rattle.policy.specs.Rule.{Rule, opening-r, count-r, same-r, both_r, either_r, copied-r, before-r, after-r, fulfilling-r, ignoring-r, on_parts, rule_trips}
use Rattle.policy.specs.Closed.{Closed, SoundRule, answer}
use Rattle.policy.specs.Value.{Part, part_trips, part_after, row_of, rows, released, remembered_after, remembered_late, remembered_fulfilling, Value, remembered, start, step_of}
use Rattle.policy.proofs.Copies.{row_below, copies-width}
use Rattle.policy.proofs.Steps.{steps-right}
use Rattle.rules.specs.Codes.{encode, PartFits, BeforeFits, AfterFits, FulfillingFits, ValueFits, FitRule}
use Rattle.rules.specs.Steps.{encode_move, code_step_of}
use Rattle.rules.proofs.Encoding.{decode-encode}
use Rattle.rules.proofs.RuleParts.{count-positive}

pub fit-sound : (rule : Rule Part) → FitRule rule → SoundRule rule
fit-sound rule fit = record { positive = count-positive rule fit.counted; closed = fit.closed }

-- the row of a part, and its row or trip
row_fits : (f : Part) → (n : ℕ) × Closed n f → (w : List ℕ) → row_of (part_after f w) < 64
row_fits f c w = let g = c.1.few in let h = row_below c.0 f c.1 w in omega arith

part-fits : (m : Move ℕ) → row_of m < 64 → PartFits m
part-fits trip h = tt
part-fits (go r) h = h

before-fits : (b : Bool) (q r : ℕ) → q < 64 → r < 64 → BeforeFits (cond b released (rows q r))
before-fits true q r g h = tt
before-fits false q r g h = (g, h)

after-fits : (o : Option ℕ) (f g : Part) → (n : ℕ) × Closed n f → (n : ℕ) × Closed n g → (w : List ℕ) → AfterFits (remembered_after o f g w)
after-fits none f g c d w = row_fits f c w
after-fits (some n) f g c d w = row_fits g d (drop n w)

module _ (k : ℕ) (f g i : Part) (few : k ≤ 60) (c : (n : ℕ) × Closed n f) (d : (n : ℕ) × Closed n g) (e : (n : ℕ) × Closed n i) where
  late-fits : (w : List ℕ) → FulfillingFits (remembered_late k f i w)
  late-fits w = by (leb k (length w)) refl
    where
      by : (b : Bool) → leb k (length w) ≡ b → FulfillingFits (remembered_late k f i w)
      by true p = rw p (row_fits i e (drop k w))
      by false p = let h = leb-false k (length w) p in rw p (row_fits f c w, omega arith)

  fulfilling-fits : (o : Option ℕ) (w : List ℕ) → FulfillingFits (remembered_fulfilling o k f g i w)
  fulfilling-fits none w = late-fits w
  fulfilling-fits (some n) w = by (leb n k) refl
    where
      by : (b : Bool) → leb n k ≡ b → FulfillingFits (remembered_fulfilling (some n) k f g i w)
      by true p = rw p (row_fits g d (drop n w))
      by false p = rw p (late-fits w)

fits : (rule : Rule Part) → FitRule rule → (w : List ℕ) → rule_trips (on_parts part_trips rule) w ≡ false → ValueFits rule (remembered rule w)
fits (opening-r hit) fit w e = tt
fits (count-r k) fit w e = let g = fit.counted.1 in let h = leb-false k (length w) e in omega arith
fits (same-r f) fit w e = row_fits f fit.closed w
fits (both_r f g) fit w e = (part-fits (part_after f w) (row_fits f fit.closed.0 w), part-fits (part_after g w) (row_fits g fit.closed.1 w))
fits (either_r f g) fit w e = (part-fits (part_after f w) (row_fits f fit.closed.0 w), part-fits (part_after g w) (row_fits g fit.closed.1 w))
fits (copied-r f) fit w e = copies-width fit.closed.0 f fit.closed.1 w
fits (before-r f g) fit w e = before-fits (part_trips f w) (row_of (part_after f w)) (row_of (part_after g w)) (row_fits f fit.closed.0 w) (row_fits g fit.closed.1 w)
fits (after-r f g) fit w e = after-fits (first (part_trips f) w) f g fit.closed.0 fit.closed.1 w
fits (fulfilling-r k f g i) fit w e = fulfilling-fits k f g i fit.counted.1 fit.closed.0 fit.closed.1 fit.closed.2 (first (part_trips f) w) w
fits (ignoring-r hit f) fit w e = row_fits f fit.closed (without hit w)

-- a move to a value that fits
abbrev MoveFits : (rule : Rule Part) → Move (Value rule) → Type 0
MoveFits rule trip = Unit {0}
MoveFits rule (go v) = ValueFits rule v

module _ (rule : Rule Part) where
  -- on a value that fits, the step on numbers is the step on values
  code-step : (v : Value rule) (a : ℕ) → ValueFits rule v → code_step_of rule (encode rule v) a ≡ encode_move rule (step_of rule v a)
  code-step v a h = ap (λ (u : Value rule). encode_move rule (step_of rule u a)) (decode-encode rule v h)

  code-after : (m : Move (Value rule)) (a : ℕ) → MoveFits rule m
      → after (encode_move rule m) (λ c. code_step_of rule c a) ≡ encode_move rule (after m (λ v. step_of rule v a))
  code-after trip a h = refl
  code-after (go v) a h = code-step v a h

  code_runs : (w : List ℕ) (m : Move (Value rule)) → ((u : List ℕ) → MoveFits rule (run (step_of rule) m u))
      → run (code_step_of rule) (encode_move rule m) w ≡ encode_move rule (run (step_of rule) m w)
  code_runs [] m h = refl
  code_runs (a ∷ w) m h = rw (code-after m a (h [])) (code_runs w (after m (λ v. step_of rule v a)) (λ u. h (a ∷ u)))

  encode-tripped : (m : Move (Value rule)) → tripped (encode_move rule m) ≡ tripped m
  encode-tripped trip = refl
  encode-tripped (go v) = refl

  pub encode-answer : (b : Bool) (v : Value rule) → encode_move rule (answer b v) ≡ answer b (encode rule v)
  encode-answer true v = refl
  encode-answer false v = refl

  module _ (fit : FitRule rule) where
    -- what is remembered of a sequence that has not tripped fits
    pub remembered-fits : (w : List ℕ) → rule_trips (on_parts part_trips rule) w ≡ false → ValueFits rule (remembered rule w)
    remembered-fits = fits rule fit

    answer-fits : (w : List ℕ) (b : Bool) → rule_trips (on_parts part_trips rule) w ≡ b → MoveFits rule (answer b (remembered rule w))
    answer-fits w true e = tt
    answer-fits w false e = remembered-fits w e

    run_fits : (w : List ℕ) → MoveFits rule (run (step_of rule) (go (start rule)) w)
    run_fits w = rw (steps-right rule (fit-sound rule fit) w) (answer-fits w (rule_trips (on_parts part_trips rule) w) refl)

    -- read from the start, the step on numbers goes through the numbers of the values
    pub code-run : (w : List ℕ)
        → run (code_step_of rule) (go (encode rule (start rule))) w ≡ encode_move rule (run (step_of rule) (go (start rule)) w)
    code-run w = code_runs w (go (start rule)) run_fits

    pub code-trips : (w : List ℕ) → trips (code_step_of rule) (encode rule (start rule)) w ≡ trips (step_of rule) (start rule) w
    code-trips w = ap tripped (code-run w) ∙ encode-tripped (run (step_of rule) (go (start rule)) w)
