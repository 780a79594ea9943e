-- Demand 2, of policies, for what a board holds: where the tables are compiled from sheets, what is proved of their verdicts holds of the policies.
-- Assumes nothing.
use mathlib.Core.Path.{◌≡◌, refl, sym, ◌∙◌, subst}
use mathlib.Core.List.{List, [], ◌∷◌, ◌++◌}
use mathlib.Core.Logic.{◌↔◌}
use Prim.Native.Nat.{ℕ, ◌<◌}
use Rattle.trace.specs.Trace.{Sequence}
use Rattle.trace.proofs.Laws.{sequence-append}
use Rattle.table.specs.Table.{type_of, actions_of, verdict}
use Rattle.compiler_laws.proofs.CompiledTable.{compiled-table}
use Rattle.view.specs.View.{View, Change}
use Rattle.view.specs.Steps.{act, Reply, permitted}
use Rattle.runs.specs.Runs.{StepOn, Run}
use Rattle.runs.specs.Events.{Event, rule, on_place}
use Rattle.runs.specs.Verdicts.{ActionListed, IsPermitted, FirstFulfilled}
use Rattle.base.specs.Sets.{Member}
use Rattle.board_policies.specs.Policies.{CompiledFrom, EnforcedSheets, satisfies_sheet, NonePolicyViolated, FirstSatisfied}
use Rattle.runs.proofs.Places.{same-table, same-since, keeps}
use Rattle.runs.proofs.State.{run-state}
use Rattle.runs.proofs.Refusals.{run-exactly}
use Rattle.runs.proofs.Runs.{run-permit-exactly, run-fulfilled-exactly}

-- the front of a sequence
sequence-front : (actions : ℕ) (v w : List ℕ) → Sequence actions (v ++ w) → Sequence actions v
sequence-front actions [] w s = tt
sequence-front actions (a ∷ v) w s = (s.0, sequence-front actions v w s.1)

-- a compiled table's verdict is its policy's
same-verdict : {table : List ℕ} (f : CompiledFrom table) (w : List ℕ) → Sequence (actions_of table) w → verdict table w ≡ satisfies_sheet f.sheet w
same-verdict f w s =
    let t = compiled-table f.bytes f.limits f.few f.read f.compiles in
    t.verdicts w (subst (λ (n : ℕ). Sequence n w) (t.actions-are ∙ t.listed) s)

module _ {events : List Event} {view : View} (r : Run events view) where
  -- the actions since a rule was put on are of its list
  sequence-since : (i : ℕ) (table since : List ℕ) → on_place events i ≡ rule table since → Sequence (actions_of table) since
  sequence-since i table since on = (keeps (run-state r) i table since on).sequence

  -- and so with one more
  sequence-more : {action : ℕ} → ActionListed events action → (i : ℕ) (table since : List ℕ) → on_place events i ≡ rule table since
      → Sequence (actions_of table) (since ++ (action ∷ []))
  sequence-more {action} l i table since on = sequence-append (actions_of table) since (action ∷ []) (sequence-since i table since on) (below, tt)
    where
      below : action < actions_of table
      below = subst (λ (n : ℕ). action < n) ((run-state r).one l.place i l.table table l.since since l.on on) l.below

  -- Where each enforced rule on is compiled from a sheet, an action of the list is permitted exactly when no enforced policy is violated by the
  -- actions permitted since its rule was put on, followed by this one.
  pub run-permit-by-policies : (sheets : EnforcedSheets events) {action : ℕ} → ActionListed events action → {places : ℕ} {reply : Reply} {change : Change}
      → StepOn places view (act action) reply change → IsPermitted reply ↔ NonePolicyViolated events sheets action
  run-permit-by-policies sheets {action} l p = (
    λ q i table since on t. sym (same i table since on t) ∙ (run-permit-exactly r l p).0 q i table since on t,
    λ q. (run-permit-exactly r l p).1 (λ i table since on t. same i table since on t ∙ q i table since on t),
  )
    where
      same : (i : ℕ) (table since : List ℕ) (on : on_place events i ≡ rule table since) (t : type_of table ≡ 1)
          → verdict table (since ++ (action ∷ [])) ≡ satisfies_sheet (sheets i table since on t).sheet (since ++ (action ∷ []))
      same i table since on t = same-verdict (sheets i table since on t) (since ++ (action ∷ [])) (sequence-more l i table since on)

  -- A watched rule that is compiled from a sheet is reported at exactly the permitted action that first satisfies its policy.
  pub run-fulfilled-by-policies : {places action set : ℕ} {change : Change} → StepOn places view (act action) (permitted set) change
      → (i : ℕ) (table since : List ℕ) → on_place events i ≡ rule table since → type_of table ≡ 2 → (from : CompiledFrom table)
      → Member set i ↔ FirstSatisfied from.sheet since action
  run-fulfilled-by-policies {action = action} p i table since on watched from = (
    λ m. to ((run-fulfilled-exactly r p i).0 m),
    λ q. (run-fulfilled-exactly r p i).1 (back q),
  )
    where
      now : verdict table (since ++ (action ∷ [])) ≡ satisfies_sheet from.sheet (since ++ (action ∷ []))
      now = same-verdict from (since ++ (action ∷ [])) (sequence-more ((run-exactly r p).0 refl) i table since on)

      before : (earlier later : List ℕ) → since ≡ earlier ++ later → verdict table earlier ≡ satisfies_sheet from.sheet earlier
      before earlier later e =
          same-verdict from earlier (sequence-front (actions_of table) earlier later (subst (Sequence (actions_of table)) e (sequence-since i table since on)))

      to : FirstFulfilled events action i → FirstSatisfied from.sheet since action
      to f =
          let e = same-table (sym f.on ∙ on) in
          let g = same-since (sym f.on ∙ on) in
          record {
            satisfied = sym now ∙ rw (← e, ← g) f.fulfilled;
            shortest = λ earlier later q. sym (before earlier later q) ∙ rw (← e) (f.shortest earlier later (g ∙ q));
          }

      back : FirstSatisfied from.sheet since action → FirstFulfilled events action i
      back q =
          record {
            table = table;
            since = since;
            on = on;
            watched = watched;
            fulfilled = now ∙ q.satisfied;
            shortest = λ earlier later e. before earlier later e ∙ q.shortest earlier later e;
          }
