-- Which tables a board holds when they are put on one by one, and after an answer to an action.
-- Assumes nothing.
use mathlib.Core.Path.{◌≡◌, refl, sym, ◌∙◌, ap}
use mathlib.Core.Bool.{Bool, true, false, cond}
use mathlib.Core.List.Memᴰ
use mathlib.Core.List.{List, [], ◌∷◌, ◌++◌, Memᴰ}
use mathlib.Core.Logic.{◌⊎◌, inl, inr}
use Prim.Native.Nat.{ℕ}
use lib.Dec.{eqb}
use borrow.Author.Tests.{eqb-true, eq-eqb}
use Rattle.view.specs.View.{View}
use Rattle.view.specs.Steps.{put_on, done}
use Rattle.runs.specs.Events.{Event, event, none as kept, put, read, PlaceState, nothing, rule, followed, after_effect}
use Rattle.runs.specs.Runs.{Run}
use Rattle.runs.specs.Holding.{HoldsOn, Holds, PutsOnly, none, more}
use Rattle.runs.proofs.Places.{no-rule, same-table, same-since}
use Rattle.runs.proofs.Refusals.{run-exactly}
use Rattle.runs.proofs.Reports.{before}

-- The actions read since, after an answer.
abbrev pub since_after : Bool → List ℕ → ℕ → List ℕ
since_after b since action = cond b (since ++ (action ∷ [])) since

followed-from : (action : ℕ) (x : PlaceState) (table now : List ℕ) → followed action x ≡ rule table now
    → (before : List ℕ) × (x ≡ rule table before) × (now ≡ before ++ (action ∷ []))
followed-from action nothing table now e = no-rule e
followed-from action (rule other before) table now e = (before, ap (λ (t : List ℕ). rule t before) (same-table e), sym (same-since e))

-- What places hold after an answer to an action.
pub holds_after : {on : ℕ → PlaceState} {tables : List (List ℕ)} {since : List ℕ} → HoldsOn on tables since → (action : ℕ) (b : Bool)
    → HoldsOn (λ i. after_effect (cond b (read action) kept) (on i)) tables (since_after b since action)
holds_after {on} {tables} {since} h action true =
    record {
      rules = λ i table now e.
          let (before, p, q) = followed-from action (on i) table now e in
          let (m, s) = h.rules i table before p in
          (m, q ∙ ap (λ (l : List ℕ). l ++ (action ∷ [])) s);
      each = λ table m. let (i, e) = h.each table m in (i, ap (followed action) e);
    }
holds_after h action false = h

-- A new board holds no tables.
pub holds-none : Holds [] [] []
holds-none = record { rules = λ i table now e. no-rule e; each = λ table m. absurd (Memᴰ.not-nil m) }

-- a place that was free
module _ {on : ℕ → PlaceState} {tables : List (List ℕ)} (h : HoldsOn on tables []) (place : ℕ) (table : List ℕ) (free : on place ≡ nothing) where
  put-rules : (i : ℕ) (b : Bool) (other now : List ℕ) → after_effect (cond b (put table) kept) (on i) ≡ rule other now → Memᴰ other (table ∷ tables) × (now ≡ [])
  put-rules i true other now e = (Memᴰ.head (sym (same-table e)), sym (same-since e))
  put-rules i false other now e = let (m, q) = h.rules i other now e in (Memᴰ.tail m, q)

  put-each : (other : List ℕ) → (other ≡ table) ⊎ Memᴰ other tables → (i : ℕ) × (after_effect (cond (eqb place i) (put table) kept) (on i) ≡ rule other [])
  put-each other (inl e) = (place, rw (eq-eqb place place refl, e))
  put-each other (inr m) = let (i, e) = h.each other m in (i, at i e (eqb place i) refl)
    where
      at : (i : ℕ) → on i ≡ rule other [] → (b : Bool) → eqb place i ≡ b → after_effect (cond b (put table) kept) (on i) ≡ rule other []
      at i e true q = no-rule (sym free ∙ ap on (eqb-true place i q) ∙ e)
      at i e false q = e

  put_holds : HoldsOn (λ i. after_effect (cond (eqb place i) (put table) kept) (on i)) (table ∷ tables) []
  put_holds = record { rules = λ i other now e. put-rules i (eqb place i) other now e; each = λ other m. put-each other (Memᴰ.cases_cons m) }

-- A table put on a run's places that hold tables, before any action was permitted since, is held with them.
pub run-holds-put : {place : ℕ} {table : List ℕ} {events : List Event} {view : View} → Run (event (put_on place table) done ∷ events) view
    → {tables : List (List ℕ)} → Holds events tables [] → Holds (event (put_on place table) done ∷ events) (table ∷ tables) []
run-holds-put {place} {table} r h = let (view, change, places, g, p) = before r in put_holds h place table ((run-exactly g p).0 refl).free

-- A run that only put tables on, each with success, holds them.
pub run-puts-hold : {events : List Event} {tables : List (List ℕ)} → PutsOnly events tables → {view : View} → Run events view → Holds events tables []
run-puts-hold none r = holds-none
run-puts-hold (more place table puts) r = run-holds-put r (run-puts-hold puts (before r).3)
