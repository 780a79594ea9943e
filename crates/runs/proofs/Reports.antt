-- A watched rule that is fulfilled stays so along the calls of a board until it is taken off, so it is reported once.
-- Assumes nothing.
use mathlib.Core.Path.{◌≡◌, refl, sym, ◌∙◌, ap}
use mathlib.Core.Bool.{Bool, true, false, cond}
use mathlib.Core.List.{List, [], ◌∷◌, ◌++◌}
use Prim.Native.Nat.{ℕ}
use native.Mathlib.Omega.{arith}
use lib.Dec.{eqb}
use borrow.Author.Tests.{eqb-true}
use Rattle.base.specs.Sets.{Member}
use Rattle.trace.proofs.Laws.{not-both}
use Rattle.table.specs.Table.{type_of, verdict}
use Rattle.view.specs.View.{View, Change}
use Rattle.view.specs.Steps.{Call, act, Reply, permitted, changes, is_refusal, checks_of, Passes, AllPass, Carries, puts, takes, is-denied, is-permitted}
use Rattle.view.proofs.StepLaws.{Ends, is-refused, is_carried, ends, refusal-refuses, refusal-keeps}
use Rattle.runs.specs.Events.{Event, event, Effect, none, put, off, read, effect_of, effect_at, is_off, PlaceState, nothing, rule, followed, after_effect, on_place, taken_off}
use Rattle.runs.specs.Runs.{StepOn, Run, called}
use Rattle.runs.specs.Verdicts.{FirstFulfilled}
use Rattle.runs.proofs.Rules.{fulfilled-stays, unfulfilled-exactly}
use Rattle.runs.proofs.Places.{no-rule, same-table, same-since, free-nothing}
use Rattle.runs.proofs.State.{run-state}
use Rattle.runs.proofs.Runs.{run-fulfilled-exactly}

-- What was before the newest event.
pub before : {events : List Event} {call : Call} {reply : Reply} {next : View} → Run (event call reply ∷ events) next
    → (view : View) × (change : Change) × (places : ℕ) × Run events view × StepOn places view call reply change
before (called {places = places} {view = view} {change = change} r p) = (view, change, places, r, p)

-- The beginning of a run is a run.
pub beginning : (later earlier : List Event) {next : View} → Run (later ++ earlier) next → (view : View) × Run earlier view
beginning [] earlier {next} r = (next, r)
beginning (event call reply ∷ later) earlier r = beginning later earlier (before r).3

-- A table is put on a place with nothing on it.
put-there : (table : List ℕ) {other : List ℕ} (b : Bool) → cond b (put table) none ≡ put other → b ≡ true
put-there table true e = refl
put-there table false e = let z : ◌≡◌ {A = ℕ} 0 1 = cc in absurd (omega arith)

off-there : {A : Type 0} {table : List ℕ} (b : Bool) → cond b off none ≡ put table → A
off-there true e = let z : ◌≡◌ {A = ℕ} 0 1 = cc in absurd (omega arith)
off-there false e = let z : ◌≡◌ {A = ℕ} 0 1 = cc in absurd (omega arith)

pub put-free : {events : List Event} {view : View} → Run events view → {places : ℕ} {call : Call} {reply : Reply} {change : Change} → StepOn places view call reply change
    → (i : ℕ) (table : List ℕ) → effect_at (event call reply) i ≡ put table → on_place events i ≡ nothing
put-free {events} {view} r {places} {call} {reply} {change} p i table e = by (ends p.step) e
  where
    kept : {A : Type 0} (b : Bool) → b ≡ false → cond b (effect_of call i) none ≡ put table → A
    kept true q e = not-both q
    kept false q e = let z : ◌≡◌ {A = ℕ} 0 1 = cc in absurd (omega arith)

    done_at : {call : Call} {reply : Reply} {change : Change} → AllPass (Passes (Unit {0}) (Unit {0}) places view) (checks_of call) → Carries places view call reply change
        → effect_at (event call reply) i ≡ put table → on_place events i ≡ nothing
    done_at all (puts {place = place} {table = other}) e =
        ap (on_place events) (sym (eqb-true place i (put-there other (eqb place i) e))) ∙ free-nothing (run-state r) place all.1.1.1.0
    done_at all (takes {place = place}) e = off-there (eqb place i) e
    done_at all (is-denied place h d n) e = let z : ◌≡◌ {A = ℕ} 0 1 = cc in absurd (omega arith)
    done_at all (is-permitted n) e = let z : ◌≡◌ {A = ℕ} 0 1 = cc in absurd (omega arith)

    by : Ends (Passes (Unit {0}) (Unit {0}) places view) (Carries places view call) (checks_of call) reply change
        → effect_at (event call reply) i ≡ put table → on_place events i ≡ nothing
    by (is-refused check n q c) e = kept (changes reply) (refusal-keeps reply (ap is_refusal q ∙ refusal-refuses check)) e
    by (is_carried all d) e = done_at all d e

-- The place holds the table, fulfilled.
record StillFulfilled (on : PlaceState) (table : List ℕ) : Type 0 where
  since : List ℕ
  holds : on ≡ rule table since
  fulfilled : verdict table since ≡ true

not-off : (b rest : Bool) → cond b true rest ≡ false → (b ≡ false) × (rest ≡ false)
not-off true rest e = not-both e
not-off false rest e = (refl, e)

module _ (table : List ℕ) (watched : type_of table ≡ 2) where
  kept_by : (x : PlaceState) (e : Effect) → is_off e ≡ false → ((other : List ℕ) → e ≡ put other → x ≡ nothing) → StillFulfilled x table → StillFulfilled (after_effect e x) table
  kept_by x none o f k = k
  kept_by x (put other) o f k = no-rule (sym (f other refl) ∙ k.holds)
  kept_by x off o f k = not-both o
  kept_by x (read action) o f k =
      record {
        since = k.since ++ (action ∷ []);
        holds = ap (followed action) k.holds;
        fulfilled = fulfilled-stays table watched k.since (action ∷ []) k.fulfilled;
      }

  still-fulfilled : (later earlier : List Event) (i : ℕ) {view : View} → Run (later ++ earlier) view → taken_off i later ≡ false
      → StillFulfilled (on_place earlier i) table → StillFulfilled (on_place (later ++ earlier) i) table
  still-fulfilled [] earlier i h t f = f
  still-fulfilled (event call reply ∷ later) earlier i h t f =
      let (view, change, places, g, p) = before h in
      let (o, rest) = not-off (is_off (effect_at (event call reply) i)) (taken_off i later) t in
      kept_by (on_place (later ++ earlier) i) (effect_at (event call reply) i) o (put-free g p i) (still-fulfilled later earlier i g rest f)

-- A watched rule is reported once: between two reports of a place it was taken off.
pub run-reported-once : (later earlier : List Event) (action again set other : ℕ) {view : View}
    → Run (event (act again) (permitted other) ∷ (later ++ (event (act action) (permitted set) ∷ earlier))) view
    → (i : ℕ) → Member set i → Member other i → taken_off i later ≡ true
run-reported-once later earlier action again set other r i m n = at (taken_off i later) refl
  where
    first : FirstFulfilled earlier action i
    first =
        let (view, g) = beginning later (event (act action) (permitted set) ∷ earlier) (before r).3 in
        let (old, change, places, k, p) = before g in
        (run-fulfilled-exactly k p i).0 m

    second : FirstFulfilled (later ++ (event (act action) (permitted set) ∷ earlier)) again i
    second = let (view, change, places, g, p) = before r in (run-fulfilled-exactly g p i).0 n

    -- the rule is still on the place, and fulfilled
    still : taken_off i later ≡ false → StillFulfilled (on_place (later ++ (event (act action) (permitted set) ∷ earlier)) i) first.table
    still e =
        still-fulfilled first.table first.watched later (event (act action) (permitted set) ∷ earlier) i (before r).3 e
        (record { since = first.since ++ (action ∷ []); holds = ap (followed action) first.on; fulfilled = first.fulfilled })

    both : taken_off i later ≡ false → ⊥
    both e =
        let k = still e in
        let q = sym k.holds ∙ second.on in
        let v : verdict second.table second.since ≡ true = rw (← same-table q, ← same-since q) k.fulfilled in
        not-both (sym v ∙ (unfulfilled-exactly second.table second.watched second.since).0 second.shortest)

    at : (b : Bool) → taken_off i later ≡ b → b ≡ true
    at true e = refl
    at false e = absurd (both e)
