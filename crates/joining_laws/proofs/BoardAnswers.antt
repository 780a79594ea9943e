-- What a board that holds enforced tables answers to an action.
-- Assumes nothing.
use mathlib.Core.Path.{◌≡◌, refl, sym, ◌∙◌, ap, subst}
use mathlib.Core.Bool.{Bool, true, false}
use mathlib.Core.List.Memᴰ
use mathlib.Core.List.{List, [], ◌∷◌, ◌++◌}
use Prim.Native.Nat.{ℕ, ◌≤◌, ◌<◌}
use native.Mathlib.Decide.{dec_lt}
use native.Mathlib.Omega.{arith}
use Rattle.trace.specs.Trace.{Sequence}
use Rattle.trace.proofs.Laws.{not-both}
use Rattle.table.specs.Table.{type_of, actions_of}
use Rattle.view.specs.View.{View, Change}
use Rattle.view.specs.Steps.{act, Reply, permitted, denied, input, InList, Occupied, checks_of, Passes, Carries, is-denied, is-permitted, Answers, refused, passed, carried}
use Rattle.view.specs.Moves.{fulfils, fulfils_at}
use Rattle.base.specs.Sets.{set_below}
use Rattle.base.proofs.Sets.{no-members}
use Rattle.runs.specs.Runs.{StepOn, Run, CaseAfter, at-enforced, at-watched, at-fulfilled, PlaceIs}
use Rattle.runs.specs.Events.{Event, PlaceState, nothing, rule, on_place}
use Rattle.runs.specs.Verdicts.{ActionListed, Violated, NoneViolated, Judges, permits, denies-lowest}
use Rattle.places.specs.declared.Case.{Case}
use Rattle.runs.proofs.Places.{keeps, rule-taken}
use Rattle.runs.proofs.State.{run-state}
use Rattle.runs.proofs.Actions.{in-list-listed, listed-in-list, carried-judges}
use Rattle.joining.specs.Meaning.{some_trips}
use Rattle.joining_laws.specs.Sets.{AmongTables}
use Rattle.runs.specs.Holding.{Holds}
use Rattle.joining_laws.specs.Boards.{AllEnforced}
use Rattle.joining_laws.proofs.SomeTrips.{some-trips-member, member-trips}
use Rattle.joining_laws.proofs.Enforced.{denies-exactly}

-- What a board that holds enforced tables answers to an action, by whether at least one of them trips.
pub data Told (actions : ℕ) (tables : List (List ℕ)) (since : List ℕ) (action : ℕ) : Reply → Type 0 where
  unlisted : actions ≤ action → Told actions tables since action (input 12 0)
  refuses : action < actions → some_trips tables (since ++ (action ∷ [])) ≡ true → (place : ℕ) → Told actions tables since action (denied place)
  allows : action < actions → some_trips tables (since ++ (action ∷ [])) ≡ false → Told actions tables since action (permitted 0)

-- an enforced rule is not fulfilled
module _ (action : ℕ) where
  rule-unfulfilled : (stored : List ℕ) {table since : List ℕ} {case : Case} → CaseAfter table since case → type_of table ≡ 1 → fulfils stored action case ≡ false
  rule-unfulfilled stored (at-enforced row t e) o = refl
  rule-unfulfilled stored (at-watched row t e) o = absurd (let z : ◌≡◌ {A = ℕ} 1 2 = sym o ∙ t in omega arith)
  rule-unfulfilled stored (at-fulfilled t e) o = refl

  place-unfulfilled : (stored : List ℕ) (x : PlaceState) (case : Case) → PlaceIs stored x case → ((table since : List ℕ) → x ≡ rule table since → type_of table ≡ 1)
      → fulfils stored action case ≡ false
  place-unfulfilled stored nothing case p o = ap (fulfils stored action) p
  place-unfulfilled stored (rule table since) case p o = rule-unfulfilled stored p.after (o table since refl)

first-of : (tables : List (List ℕ)) → (tables ≡ [] → ⊥) → (table : List ℕ) × AmongTables table tables
first-of [] n = absurd (n refl)
first-of (table ∷ tables) n = (table, Memᴰ.head refl)

is_false : (b : Bool) → (b ≡ true → ⊥) → b ≡ false
is_false true n = absurd (n refl)
is_false false n = refl

module _ {events : List Event} {view : View} (r : Run events view) {tables : List (List ℕ)} {since : List ℕ}
    (holds : Holds events tables since) {actions : ℕ} (all : AllEnforced tables actions) (action : ℕ) where
  -- one of the rules
  some-rule : (table : List ℕ) × (i : ℕ) × (on_place events i ≡ rule table since)
  some-rule = let (table, m) = first-of tables all.some in let (i, e) = holds.each table m in (table, i, e)

  over-actions : (i : ℕ) (table other : List ℕ) → on_place events i ≡ rule table other → actions_of table ≡ actions
  over-actions i table other e = all.acting table (holds.rules i table other e).0

  -- What was permitted is a sequence over the actions.
  pub since-listed : Sequence actions since
  since-listed =
      let (table, i, e) = some-rule in
      subst (λ (n : ℕ). Sequence n since) (over-actions i table since e) (keeps (run-state r) i table since e).sequence

  violated-trips : {place : ℕ} → Violated events action place → some_trips tables (since ++ (action ∷ [])) ≡ true
  violated-trips {place} v =
      let (m, e) = holds.rules place v.table v.since v.on in
      subst (λ (l : List ℕ). some_trips tables (l ++ (action ∷ [])) ≡ true) e
      (member-trips (v.since ++ (action ∷ [])) m ((denies-exactly v.table (v.since ++ (action ∷ [])) v.enforced).0 v.violated))

  none-trips : NoneViolated events action → some_trips tables (since ++ (action ∷ [])) ≡ false
  none-trips n = is_false (some_trips tables (since ++ (action ∷ []))) never
    where
      never : some_trips tables (since ++ (action ∷ [])) ≡ true → ⊥
      never e =
          let t = (some-trips-member (since ++ (action ∷ [])) tables).0 e in
          let (i, on) = holds.each t.table t.member in
          let one = all.enforced t.table t.member in
          not-both (sym (n i t.table since on one) ∙ (denies-exactly t.table (since ++ (action ∷ [])) one).1 t.trips-it)

  refused-by : {place : ℕ} → Judges events action (denied place) → some_trips tables (since ++ (action ∷ [])) ≡ true
  refused-by (denies-lowest place v lowest) = violated-trips v

  allowed-by : {set : ℕ} → Judges events action (permitted set) → some_trips tables (since ++ (action ∷ [])) ≡ false
  allowed-by (permits set n members) = none-trips n

  unreported : (places : ℕ) → set_below (fulfils_at view action) places ≡ 0
  unreported places =
      no-members (fulfils_at view action) places
      (λ i h. place-unfulfilled action (view.table i) (on_place events i) (view.case i) ((run-state r).each i)
      (λ table other e. all.enforced table (holds.rules i table other e).0))

  -- The answer to an action: 12 outside the list, a denial where one of the tables trips, else permitted, with nothing fulfilled.
  pub told : {places : ℕ} {reply : Reply} {change : Change} → StepOn places view (act action) reply change → Told actions tables since action reply
  told {places} p = by p.step
    where
      listed-if : action < actions → ActionListed events action
      listed-if h =
          let (table, i, e) = some-rule in
          record { place = i; table = table; since = since; on = e; below = subst (λ (n : ℕ). action < n) (sym (over-actions i table since e)) h }

      occupied : Occupied places view
      occupied =
          let (table, i, e) = some-rule in
          let t = rule-taken (run-state r) i table since e in
          record { place = i; below = p.above i t; on = t }

      low : InList places view action → action < actions
      low l =
          let k = in-list-listed events (run-state r) action l in
          subst (λ (n : ℕ). action < n) (over-actions k.place k.table k.since k.on) k.below

      outside : (InList places view action → ⊥) → actions ≤ action
      outside n = elim (dec_lt action actions) [ yes h ↦ absurd (n (listed-in-list events (run-state r) action p.above (listed-if h))) | no h ↦ omega arith ]

      done-by : {reply : Reply} {change : Change} → action < actions → Carries places view (act action) reply change → Told actions tables since action reply
      done-by h (is-denied place g d n) = refuses h (refused-by (carried-judges events (run-state r) action p.above (is-denied place g d n))) place
      done-by h (is-permitted n) =
          subst (λ (set : ℕ). Told actions tables since action (permitted set)) (sym (unreported places))
          (allows h (allowed-by (carried-judges events (run-state r) action p.above (is-permitted n))))

      by : {reply : Reply} {change : Change} → Answers (Passes (Unit {0}) (Unit {0}) places view) (Carries places view (act action)) reply change (checks_of (act action))
          → Told actions tables since action reply
      by (refused n q c) = absurd (n tt)
      by (passed u (refused n q c)) = absurd (n tt)
      by (passed u (passed v (refused n q c))) = absurd (n occupied)
      by (passed u (passed v (passed o (refused n q c)))) = subst (Told actions tables since action) (sym q) (unlisted (outside n))
      by (passed u (passed v (passed o (passed l (carried d))))) = done-by (low l) d
