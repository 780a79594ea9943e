-- Demand 2 for a board that is used only through its calls, said of what it holds: when an action is permitted, and where a watched rule is reported.
-- How an area holds the tables is not spoken of.
-- Assumes nothing.
use mathlib.Core.Path.{◌≡◌, refl, sym, ◌∙◌, ap}
use mathlib.Core.List.{List}
use mathlib.Core.Logic.{◌↔◌}
use Prim.Native.Nat.{ℕ, ◌<◌}
use native.Mathlib.Omega.{arith}
use Rattle.base.specs.Sets.{Member}
use Rattle.trace.proofs.Laws.{not-both}
use Rattle.table.specs.Table.{type_of}
use Rattle.view.specs.View.{View, Change}
use Rattle.view.specs.Steps.{act, Reply, permitted, denied, changes}
use Rattle.runs.specs.Events.{Event, rule, on_place}
use Rattle.runs.specs.Runs.{StepOn, Run}
use Rattle.runs.specs.Verdicts.{ActionListed, Violated, NoneViolated, FirstFulfilled, Judges, permits, denies-lowest, IsPermitted}
use Rattle.runs.proofs.State.{run-state}
use Rattle.runs.proofs.Actions.{carried-judges}
use Rattle.runs.proofs.Refusals.{run-exactly, run-carried}

-- an answer that is permitted is no denial
pub not-permitted : {A : Type 0} (place : ℕ) → IsPermitted (denied place) → A
not-permitted place p = not-both (sym (ap changes p.1))

module _ {events : List Event} {view : View} (r : Run events view) where
  -- The answer to an action of the list: permitted with the set of the places that it fulfils, or denied with the lowest place that it violates.
  pub run-judges : {action : ℕ} → ActionListed events action → {places : ℕ} {reply : Reply} {change : Change} → StepOn places view (act action) reply change → Judges events action reply
  run-judges {action} l p = carried-judges events (run-state r) action p.above (run-carried r p l)

  -- An action of the list is permitted exactly when no enforced rule is violated by the actions permitted since that rule was put on, followed
  -- by this one.
  pub run-permit-exactly : {action : ℕ} → ActionListed events action → {places : ℕ} {reply : Reply} {change : Change} → StepOn places view (act action) reply change
      → IsPermitted reply ↔ NoneViolated events action
  run-permit-exactly {action} l p = by (run-judges l p)
    where
      by : {reply : Reply} → Judges events action reply → IsPermitted reply ↔ NoneViolated events action
      by (permits set none members) = (λ p. none, λ n. (set, refl))
      by (denies-lowest place v lowest) =
          (not-permitted place, λ n. not-both (sym (n place v.table v.since v.on v.enforced) ∙ v.violated))

  -- Otherwise it is denied, with the lowest place whose enforced rule is violated.
  pub run-deny-otherwise : {action : ℕ} → ActionListed events action → {places : ℕ} {reply : Reply} {change : Change} → StepOn places view (act action) reply change
      → (NoneViolated events action → ⊥) → (place : ℕ) × (reply ≡ denied place) × Violated events action place × ((i : ℕ) → i < place → Violated events action i → ⊥)
  run-deny-otherwise {action} l p n = by (run-judges l p)
    where
      by : {reply : Reply} → Judges events action reply
          → (place : ℕ) × (reply ≡ denied place) × Violated events action place × ((i : ℕ) → i < place → Violated events action i → ⊥)
      by (permits set none members) = absurd (n none)
      by (denies-lowest place v lowest) = (place, refl, v, lowest)

  -- A board that holds only watched rules permits every action in its list.
  pub run-only-watched : ((i : ℕ) (table since : List ℕ) → on_place events i ≡ rule table since → type_of table ≡ 2)
      → {action : ℕ} → ActionListed events action → {places : ℕ} {reply : Reply} {change : Change} → StepOn places view (act action) reply change → IsPermitted reply
  run-only-watched watched {action} l p = (run-permit-exactly l p).1 none
    where
      none : NoneViolated events action
      none i table since e t = absurd (let z : ◌≡◌ {A = ℕ} 1 2 = sym t ∙ watched i table since e in omega arith)

  -- A watched rule is reported fulfilled at exactly the permitted action that first fulfils it.
  pub run-fulfilled-exactly : {places action set : ℕ} {change : Change} → StepOn places view (act action) (permitted set) change
      → (i : ℕ) → Member set i ↔ FirstFulfilled events action i
  run-fulfilled-exactly {action} p = by (run-judges ((run-exactly r p).0 refl) p)
    where
      by : {set : ℕ} → Judges events action (permitted set) → (i : ℕ) → Member set i ↔ FirstFulfilled events action i
      by (permits set none members) = members
