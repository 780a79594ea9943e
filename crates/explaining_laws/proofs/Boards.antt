-- A board that holds the table of an enforced sheet alone answers a list, given to it action by action, as explaining says: permitted up to the place,
-- and denied there.
-- Assumes nothing.
use mathlib.Core.Path.{◌≡◌, refl, sym, ◌∙◌, ap, ap₂, subst}
use mathlib.Core.Bool.{true, false}
use mathlib.Core.List.Memᴰ
use mathlib.Core.List.{List, [], ◌∷◌, ◌++◌, reverse, reverse-cons}
use Prim.Native.Nat.{ℕ, suc, ◌<◌}
use lib.ListN.{length, length-reverse}
use lib.Seq.{take-nil}
use Rattle.trace.specs.Trace.{Sequence}
use Rattle.table.specs.Table.{verdict}
use Rattle.view.specs.View.{View, Change}
use Rattle.view.specs.Steps.{Reply, permitted, denied, act}
use Rattle.runs.specs.Runs.{StepOn, Run}
use Rattle.runs.specs.Events.{Event, event, rule, on_place}
use Rattle.runs.specs.Verdicts.{ActionListed, Judges, permits, denies-lowest}
use Rattle.syntax.specs.declared.Sheet.{Sheet}
use Rattle.compiler_laws.proofs.CompiledTable.{TableOf}
use Rattle.runs.proofs.Reports.{before}
use Rattle.runs.proofs.Runs.{run-judges}
use Rattle.runs.specs.Holding.{Holds, ActsOnly, none, more}
use Rattle.runs.proofs.Holding.{holds_after}
use Rattle.explaining.specs.Denials.{policy_node, satisfies_node, NoneDenied, FirstDenied}
use Rattle.explaining_laws.specs.Boards.{AllPermitted, DeniedAfter}
use Rattle.explaining_laws.specs.Boards.{none as none-asked, more as one_more}
use Rattle.explaining_laws.proofs.Fronts.{sequence-parts, first-denied-more, none-denied-more, first-denied-here}

-- as many events as actions
acts-length : {later : List Event} {asked : List ℕ} → ActsOnly later asked → length later ≡ length asked
acts-length none = refl
acts-length (more action reply acts) = ap suc (acts-length acts)

-- A board that has held a table alone, after the actions that the later events ask for: all were permitted, or one was denied.
pub data Answered (sheet : Sheet) (table : List ℕ) (later events : List Event) (w : List ℕ) : Type 0 where
  all-permitted : AllPermitted later → Holds (later ++ events) (table ∷ []) w → NoneDenied sheet w → Answered sheet table later events w
  one-denied : (place : ℕ) → FirstDenied sheet w place → DeniedAfter table later events place → Answered sheet table later events w

module _ {sheet : Sheet} {table : List ℕ} {actions rows : ℕ} (t : TableOf sheet 1 actions rows table) where
  -- the answer to one more action
  data Verdict (events : List Event) (w : List ℕ) (action : ℕ) : Reply → Type 0 where
    lets : (set : ℕ) → satisfies_node sheet (policy_node sheet) (w ++ (action ∷ [])) ≡ true → Verdict events w action (permitted set)
    stops : (place : ℕ) → on_place events place ≡ rule table w → satisfies_node sheet (policy_node sheet) (w ++ (action ∷ [])) ≡ false
        → Verdict events w action (denied place)

  module _ {events : List Event} {w : List ℕ} (holds : Holds events (table ∷ []) w) {action : ℕ} (s : Sequence sheet.actions (w ++ (action ∷ []))) where
    judged : {reply : Reply} → Judges events action reply → Verdict events w action reply
    judged (permits set ok members) =
        let (i, on) = holds.each table (Memᴰ.head refl) in lets set (sym (t.verdicts (w ++ (action ∷ [])) s) ∙ ok i table w on t.type-is)
    judged (denies-lowest place v lowest) =
        let (m, q) = holds.rules place v.table v.since v.on in
        let e = Memᴰ.eq_of_singleton m in
        stops place (v.on ∙ ap₂ rule e q)
        (sym (t.verdicts (w ++ (action ∷ [])) s) ∙ sym (ap₂ (λ (l u : List ℕ). verdict l (u ++ (action ∷ []))) e q) ∙ v.violated)

    listed : ActionListed events action
    listed =
        let (i, on) = holds.each table (Memᴰ.head refl) in
        record {
          place = i;
          table = table;
          since = w;
          on = on;
          below = subst (λ (n : ℕ). action < n) (sym (t.actions-are ∙ t.listed)) (sequence-parts sheet.actions w (action ∷ []) s).1.0;
        }

  module _ {later events : List Event} {w : List ℕ} {action : ℕ} where
    -- one more action where all were permitted
    permitted-more : AllPermitted later → length later ≡ length w → Holds (later ++ events) (table ∷ []) w → NoneDenied sheet w → {reply : Reply}
        → Verdict (later ++ events) w action reply → Answered sheet table (event (act action) reply ∷ later) events (w ++ (action ∷ []))
    permitted-more p l holds ok (lets set e) = all-permitted (one_more action set p) (holds_after holds action true) (none-denied-more sheet w action ok e)
    permitted-more p l holds ok (stops place on e) =
        one-denied (length w) (first-denied-here sheet w action ok e)
        (record { before = later; permitted-each = p; counted = l; action = action; place = place; since = w; holds = on; afterwards = []; all = refl })

    -- one more where one was denied
    denied-more : (reply : Reply) {place : ℕ} → FirstDenied sheet w place → DeniedAfter table later events place
        → Answered sheet table (event (act action) reply ∷ later) events (w ++ (action ∷ []))
    denied-more reply {place} f d =
        one-denied place (first-denied-more sheet w (action ∷ []) f)
        (record {
          before = d.before;
          permitted-each = d.permitted-each;
          counted = d.counted;
          action = d.action;
          place = d.place;
          since = d.since;
          holds = d.holds;
          afterwards = event (act action) reply ∷ d.afterwards;
          all = ap (λ (l : List Event). event (act action) reply ∷ l) d.all;
        })

    answered-more : length later ≡ length w → Sequence sheet.actions (w ++ (action ∷ [])) → {view : View} → Run (later ++ events) view
        → {places : ℕ} {reply : Reply} {change : Change} → StepOn places view (act action) reply change → Answered sheet table later events w
        → Answered sheet table (event (act action) reply ∷ later) events (w ++ (action ∷ []))
    answered-more l s r p (all-permitted m holds ok) = permitted-more m l holds ok (judged holds s (run-judges r (listed holds s) p))
    answered-more l s r {reply = reply} p (one-denied place f d) = denied-more reply f d

  -- A board that holds the table alone, with no action permitted since, given actions one by one.
  pub run-answered : satisfies_node sheet (policy_node sheet) [] ≡ true → {events : List Event} → Holds events (table ∷ []) [] → {later : List Event} {asked : List ℕ}
      → ActsOnly later asked → {view : View} → Run (later ++ events) view → Sequence sheet.actions (reverse asked)
      → Answered sheet table later events (reverse asked)
  run-answered begins holds none r s = all-permitted none-asked holds (λ k h. rw (take-nil k) begins)
  run-answered begins {events} holds {asked = asked} (more {events = later} {actions = earlier} action reply acts) r s =
      let (view, change, places, g, p) = before r in
      let s' = subst (Sequence sheet.actions) (reverse-cons action earlier) s in
      let ih = run-answered begins holds acts g (sequence-parts sheet.actions (reverse earlier) (action ∷ []) s').0 in
      subst (Answered sheet table (event (act action) reply ∷ later) events) (sym (reverse-cons action earlier))
      (answered-more (acts-length acts ∙ sym (length-reverse earlier)) s' g p ih)
