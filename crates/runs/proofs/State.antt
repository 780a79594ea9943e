-- What a board that is used only through its calls holds is as its events say.
-- Assumes nothing.
use mathlib.Core.Path.{◌≡◌, refl, sym, ◌∙◌, ap, subst}
use mathlib.Core.Bool.{Bool, true, false, cond}
use mathlib.Core.List.{List, [], ◌∷◌}
use Prim.Native.Nat.{ℕ, ◌<◌}
use lib.Dec.{eqb}
use Rattle.trace.proofs.Laws.{not-both, sequence-append}
use Rattle.table.specs.Table.{type_of, actions_of, Accepted}
use Rattle.places.specs.Places.{taken}
use Rattle.places.specs.declared.Case.{Case}
use Rattle.places.specs.declared.Case.TheVariants.{Empty}
use Rattle.view.specs.View.{View, empty_view, Change, sets, moves, view_after}
use Rattle.view.specs.Moves.{first_case, denies, moved, moved_at, NoneDenies}
use Rattle.view.specs.Steps.{Call, Reply, changes, is_refusal, checks_of, Passes, AllPass, SameActions, InList, Carries, puts, takes, is-denied, is-permitted}
use Rattle.view.proofs.StepLaws.{Ends, is-refused, is_carried, ends, refusal-refuses, refusal-keeps}
use Rattle.runs.specs.Events.{Event, event, none, put, off, effect_of, effect_at, PlaceState, nothing, rule, followed, after_effect, on_place}
use Rattle.runs.specs.Runs.{StepOn, Run, start, called, PlaceIs, StateIs}
use Rattle.runs.proofs.Rules.{moved-after, first-after}
use Rattle.runs.proofs.Places.{no-rule, same-table, keeps, rule-taken, taken-rule}

start-state : StateIs (on_place []) empty_view
start-state = record { each = λ i. refl; one = λ i j table other since since' e f. no-rule e }

module _ {on : ℕ → PlaceState} {view : View} (s : StateIs on view) where
  -- every rule has the table's number of actions
  pub agreeing : {places : ℕ} → ((i : ℕ) → taken (view.case i) ≡ true → i < places) → (table : List ℕ) → SameActions places view (actions_of table)
      → (i : ℕ) (other since : List ℕ) → on i ≡ rule other since → actions_of other ≡ actions_of table
  agreeing above table same i other since e =
      let t = rule-taken s i other since e in sym (ap actions_of (keeps s i other since e).stands) ∙ same i (above i t) t

  -- Putting on.
  module _ (place : ℕ) (table : List ℕ) (ok : Accepted table) (agrees : (i : ℕ) (other since : List ℕ) → on i ≡ rule other since → actions_of other ≡ actions_of table) where
    put-agreeing : (i : ℕ) (b : Bool) (other since : List ℕ) → after_effect (cond b (put table) none) (on i) ≡ rule other since → actions_of other ≡ actions_of table
    put-agreeing i true other since e = sym (ap actions_of (same-table e))
    put-agreeing i false other since e = agrees i other since e

    put-state : StateIs (λ i. after_effect (cond (eqb place i) (put table) none) (on i)) (view_after (sets place (first_case (type_of table)) table) view)
    put-state =
        record {
          each = λ i. at i (eqb place i);
          one = λ i j t u since since' e f. put-agreeing i (eqb place i) t since e ∙ sym (put-agreeing j (eqb place j) u since' f);
        }
      where
        at : (i : ℕ) (b : Bool) → PlaceIs (cond b table (view.table i)) (after_effect (cond b (put table) none) (on i)) (cond b (first_case (type_of table)) (view.case i))
        at i true = record { accepted = ok; stands = refl; sequence = tt; after = first-after table ok.formed }
        at i false = s.each i

  -- Taking off.
  module _ (place : ℕ) where
    still : (i : ℕ) (b : Bool) (table since : List ℕ) → after_effect (cond b off none) (on i) ≡ rule table since → on i ≡ rule table since
    still i true table since e = no-rule e
    still i false table since e = e

    take-state : StateIs (λ i. after_effect (cond (eqb place i) off none) (on i)) (view_after (sets place Empty []) view)
    take-state =
        record {
          each = λ i. at i (eqb place i);
          one = λ i j t u since since' e f. s.one i j t u since since' (still i (eqb place i) t since e) (still j (eqb place j) u since' f);
        }
      where
        at : (i : ℕ) (b : Bool) → PlaceIs (cond b [] (view.table i)) (after_effect (cond b off none) (on i)) (cond b Empty (view.case i))
        at i true = refl
        at i false = s.each i

  -- An action that every rule reads.
  module _ (action : ℕ) where
    -- an action of a rule's list is of every rule's
    in-every-list : {places : ℕ} → InList places view action → (i : ℕ) (table since : List ℕ) → on i ≡ rule table since → action < actions_of table
    in-every-list l i table since e =
        let (other, since', f) = taken-rule s l.place l.on in
        subst (λ (n : ℕ). action < n) (ap actions_of (keeps s l.place other since' f).stands ∙ s.one l.place i other table since' since f e) l.listed

    followed-rule : (x : PlaceState) (table since : List ℕ) → followed action x ≡ rule table since → (before : List ℕ) × (x ≡ rule table before)
    followed-rule nothing table since e = no-rule e
    followed-rule (rule other before) table since e = (before, ap (λ (t : List ℕ). rule t before) (same-table e))

    followed-place : (stored : List ℕ) (x : PlaceState) (c : Case) → PlaceIs stored x c
        → ((table since : List ℕ) → x ≡ rule table since → (action < actions_of table) × (denies stored action c ≡ false))
        → PlaceIs stored (followed action x) (moved stored action c)
    followed-place stored nothing c p f = ap (moved stored action) p
    followed-place stored (rule table since) c p f =
        let (low, free) = f table since refl in
        record {
          accepted = p.accepted;
          stands = p.stands;
          sequence = sequence-append (actions_of table) since (action ∷ []) p.sequence (low, tt);
          after = rw p.stands (moved-after table since action p.after (rw p.stands at free));
        }

    read-state : {places : ℕ} → ((i : ℕ) → taken (view.case i) ≡ true → i < places) → InList places view action → NoneDenies view action places
        → StateIs (λ i. followed action (on i)) (view_after (moves (moved_at view action)) view)
    read-state above l d =
        record {
          each = λ i. followed-place (view.table i) (on i) (view.case i) (s.each i) (λ table since e. (in-every-list l i table since e, d i (above i (rule-taken s i table since e))));
          one = one;
        }
      where
        one : (i j : ℕ) (t u since since' : List ℕ) → followed action (on i) ≡ rule t since → followed action (on j) ≡ rule u since' → actions_of t ≡ actions_of u
        one i j t u since since' e f =
            let (before, p) = followed-rule (on i) t since e in
            let (before', q) = followed-rule (on j) u since' f in
            s.one i j t u before before' p q

  -- One more call.
  after-carried : {places : ℕ} → ((i : ℕ) → taken (view.case i) ≡ true → i < places) → {call : Call} {reply : Reply} {change : Change}
      → AllPass (Passes (Unit {0}) (Unit {0}) places view) (checks_of call) → Carries places view call reply change
      → StateIs (λ i. after_effect (effect_at (event call reply) i) (on i)) (view_after change view)
  after-carried above all (puts {place = place} {table = table}) =
      let loaded = all.1.1.1.1 in
      put-state place table (record { formed = loaded.0; canonical = loaded.1.0 }) (agreeing above table loaded.1.1.0)
  after-carried above all (takes {place = place}) = take-state place
  after-carried above all (is-denied place h d n) = s
  after-carried above all (is-permitted {action = action} n) = read-state action above all.1.1.1.0 n

  pub after-step : {places : ℕ} {call : Call} {reply : Reply} {change : Change} → StepOn places view call reply change
      → StateIs (λ i. after_effect (effect_at (event call reply) i) (on i)) (view_after change view)
  after-step {places} {call} {reply} {change} p = by (ends p.step)
    where
      kept : (b : Bool) → b ≡ false → StateIs (λ i. after_effect (cond b (effect_of call i) none) (on i)) view
      kept true e = not-both e
      kept false e = s

      by : Ends (Passes (Unit {0}) (Unit {0}) places view) (Carries places view call) (checks_of call) reply change
          → StateIs (λ i. after_effect (effect_at (event call reply) i) (on i)) (view_after change view)
      by (is-refused check n r c) = rw c (kept (changes reply) (refusal-keeps reply (ap is_refusal r ∙ refusal-refuses check)))
      by (is_carried all d) = after-carried p.above all d

-- What a board that is used only through its calls holds is as its events say: each place empty where nothing is on it; a rule's accepted table
-- held, and its case that after the actions that it has read since it was put on; all with one number of actions.
pub run-state : {events : List Event} {view : View} → Run events view → StateIs (on_place events) view
run-state start = start-state
run-state (called r p) = after-step (run-state r) p
