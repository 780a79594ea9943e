-- Which refusals a board that is used only through its calls gives: never 14 or 25, and none that does not apply.
-- Assumes nothing.
use mathlib.Core.Path.{◌≡◌, refl, sym, ◌∙◌, ap}
use mathlib.Core.Bool.{Bool, true, false}
use mathlib.Core.List.{List}
use mathlib.Core.Logic.{◌↔◌}
use Prim.Native.Nat.{ℕ, ◌<◌}
use native.Mathlib.Omega.{arith}
use Rattle.trace.proofs.Laws.{not-both}
use Rattle.table.specs.Table.{actions_of}
use Rattle.places.specs.Places.{taken}
use Rattle.view.specs.View.{View, Change}
use Rattle.view.specs.Steps.{Call, put_on, take-off, act, Reply, is_refusal, Check, short-area, no_place, impossible, place-taken, place-empty, malformed, misnumbered}
use Rattle.view.specs.Steps.{other-actions, board-empty, no-action, refusal, checks_of, Passes, AllPass, SameActions, Carries, puts, takes, is-denied, is-permitted}
use Rattle.view.proofs.StepLaws.{Ends, is-refused, is_carried, ends, all-carried, step-exactly}
use Rattle.runs.specs.Events.{Event, on_place, refusal_number, NeverRefused}
use Rattle.runs.specs.Runs.{StepOn, Run, start, called, StateIs}
use Rattle.runs.specs.Verdicts.{MayPut, May}
use Rattle.runs.proofs.Places.{keeps, taken-rule, free-nothing, nothing-free}
use Rattle.runs.proofs.State.{agreeing, run-state}
use Rattle.runs.proofs.Actions.{in-list-listed, listed-in-list}

-- 14 and 25 are not answered where they ask nothing.
abbrev Neither : Reply → Type 0
Neither reply = (refusal_number reply ≡ 14 → ⊥) × (refusal_number reply ≡ 25 → ⊥)

refusal-neither : (places : ℕ) (view : View) (check : Check) → (Passes (Unit {0}) (Unit {0}) places view check → ⊥) → Neither (refusal check)
refusal-neither places view short-area n = absurd (n tt)
refusal-neither places view (no_place place) n = omega arith
refusal-neither places view impossible n = absurd (n tt)
refusal-neither places view (place-taken place) n = omega arith
refusal-neither places view (place-empty place) n = omega arith
refusal-neither places view (malformed table) n = omega arith
refusal-neither places view (misnumbered table) n = omega arith
refusal-neither places view (other-actions table) n = omega arith
refusal-neither places view board-empty n = omega arith
refusal-neither places view (no-action action) n = omega arith

carried-neither : {places : ℕ} {view : View} {call : Call} {reply : Reply} {change : Change} → Carries places view call reply change → Neither reply
carried-neither puts = omega arith
carried-neither takes = omega arith
carried-neither (is-denied place h d n) = omega arith
carried-neither (is-permitted n) = omega arith

step-neither : {places : ℕ} {view : View} {call : Call} {reply : Reply} {change : Change} → StepOn places view call reply change → Neither reply
step-neither {places} {view} {call} p = by (ends p.step)
  where
    by : {reply : Reply} {change : Change} → Ends (Passes (Unit {0}) (Unit {0}) places view) (Carries places view call) (checks_of call) reply change → Neither reply
    by (is-refused check n r c) = rw r (refusal-neither places view check n)
    by (is_carried all d) = carried-neither d

-- No call was refused by 14, and none by 25.
pub run-never : {events : List Event} {view : View} → Run events view → NeverRefused 14 events × NeverRefused 25 events
run-never start = (tt, tt)
run-never (called r p) = let n = step-neither p in let m = run-never r in ((n.0, m.0), (n.1, m.1))

not_free : (b : Bool) → (b ≡ false → ⊥) → b ≡ true
not_free true n = refl
not_free false n = absurd (n refl)

-- What applies to the view is what the events say.
module _ (events : List Event) {view : View} (s : StateIs (on_place events) view) (places : ℕ) (above : (i : ℕ) → taken (view.case i) ≡ true → i < places) where
  -- no taken place has another number of actions
  same-actions : (place : ℕ) (table : List ℕ) → MayPut places events place table → SameActions places view (actions_of table)
  same-actions place table m i h t =
      let (other, since, e) = taken-rule s i t in
      ap actions_of (keeps s i other since e).stands ∙ m.agreeing i other since e

  said : (call : Call) → AllPass (Passes (Unit {0}) (Unit {0}) places view) (checks_of call) ↔ May places events call
  said (put_on place table) = (
    λ all.
        let loaded = all.1.1.1.1 in
        record {
          below = all.1.0;
          free = free-nothing s place all.1.1.1.0;
          accepted = record { formed = loaded.0; canonical = loaded.1.0 };
          agreeing = agreeing s above table loaded.1.1.0;
        },
    λ m.
        (tt, (m.below, (tt, (nothing-free s place m.free, (m.accepted.formed, (m.accepted.canonical, (same-actions place table m, tt))))))),
  )
  said (take-off place) = (
    λ all. record { below = all.1.0; on = λ e. not-both (sym all.1.1.1.0 ∙ nothing-free s place e) },
    λ m. (tt, (m.below, (tt, (not_free (taken (view.case place)) (λ e. m.on (free-nothing s place e)), tt)))),
  )
  said (act action) = (
    λ all. in-list-listed events s action all.1.1.1.0,
    λ l.
        let i = listed-in-list events s action above l in
        (tt, (tt, (record { place = i.place; below = i.below; on = i.on }, (i, tt)))),
  )

-- A call is carried out exactly when no refusal stated for it applies: a table is put on, a place is taken off, an action is permitted or denied.
pub run-exactly : {events : List Event} {view : View} → Run events view → {places : ℕ} {call : Call} {reply : Reply} {change : Change}
    → StepOn places view call reply change → (is_refusal reply ≡ false) ↔ May places events call
run-exactly {events} r {places} {call} p =
    let (there, back) = step-exactly p.step in
    let (to, from) = said events (run-state r) places p.above call in
    (λ e. to (there e), λ m. back (from m))

-- So one that is not refused is done where no refusal applies.
pub run-carried : {events : List Event} {view : View} → Run events view → {places : ℕ} {call : Call} {reply : Reply} {change : Change}
    → StepOn places view call reply change → May places events call → Carries places view call reply change
run-carried {events} r {places} {call} p m = all-carried p.step ((said events (run-state r) places p.above call).1 m)
