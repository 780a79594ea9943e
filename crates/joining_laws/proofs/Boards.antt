-- A board that holds several enforced tables, and a board that holds one for all of them, answer the same actions alike.
-- Assumes nothing.
use mathlib.Core.Path.{◌≡◌, refl, sym, ◌∙◌, ap, subst}
use mathlib.Core.Bool.{Bool}
use mathlib.Core.List.Memᴰ
use mathlib.Core.List.{List, [], ◌∷◌, ◌++◌}
use mathlib.Core.Logic.{◌↔◌}
use Prim.Native.Nat.{ℕ, ◌<◌}
use native.Mathlib.Omega.{arith}
use Rattle.trace.proofs.Laws.{not-both, sequence-append}
use Rattle.table.specs.Table.{type_of, actions_of}
use Rattle.view.specs.View.{View, Change}
use Rattle.view.specs.Steps.{act, Reply, permitted, input, changes}
use Rattle.runs.specs.Runs.{StepOn, Run}
use Rattle.runs.specs.Events.{Event, event, PlaceState}
use Rattle.runs.specs.Holding.{HoldsOn, Holds, ActsOnly, none, more}
use Rattle.board_laws.specs.History.{History}
use Rattle.runs.specs.Verdicts.{IsPermitted}
use Rattle.places.specs.declared.Board.{Board}
use Rattle.runs.proofs.Reports.{before}
use Rattle.runs.proofs.Holding.{since_after, holds_after}
use Rattle.board_laws.proofs.HistoryRun.{history-run}
use Rattle.joining.specs.Meaning.{some_trips}
use Rattle.joining_laws.specs.Boards.{AllEnforced, StandsFor, AlikeReplies, same, both-denied, none as none-asked, more as one_more, Follow}
use Rattle.joining_laws.specs.Sets.{SameTables}
use Rattle.joining_laws.proofs.SomeTrips.{or-none}
use Rattle.joining_laws.proofs.BoardAnswers.{Told, unlisted, refuses, allows, since-listed, told}

-- Holding tables depends on them as a set.
pub holds_same : {on : ℕ → PlaceState} {tables others : List (List ℕ)} {since : List ℕ} → SameTables tables others → HoldsOn on tables since → HoldsOn on others since
holds_same s h =
    record { rules = λ i table now e. let (m, q) = h.rules i table now e in (s.in-other table m, q); each = λ table m. h.each table (s.in_one table m) }

-- Alike answers: an action is permitted by the one board exactly when by the other.
pub alike-permitted : {reply other : Reply} → AlikeReplies reply other → IsPermitted reply ↔ IsPermitted other
alike-permitted (same reply) = (λ p. p, λ p. p)
alike-permitted (both-denied place other) = (λ p. not-both (sym (ap changes p.1)), λ p. not-both (sym (ap changes p.1)))

changes-alike : {reply other : Reply} → AlikeReplies reply other → changes reply ≡ changes other
changes-alike (same reply) = refl
changes-alike (both-denied place other) = refl

module _ {actions : ℕ} {tables others : List (List ℕ)} {since : List ℕ} {action : ℕ}
    (agree : action < actions → some_trips tables (since ++ (action ∷ [])) ≡ some_trips others (since ++ (action ∷ []))) where
  alike : {reply reply' : Reply} → Told actions tables since action reply → Told actions others since action reply' → AlikeReplies reply reply'
  alike (unlisted l) (unlisted k) = same (input 12 0)
  alike (unlisted l) (refuses h t place) = absurd (omega arith)
  alike (unlisted l) (allows h t) = absurd (omega arith)
  alike (refuses h t place) (unlisted k) = absurd (omega arith)
  alike (refuses h t place) (refuses g u other) = both-denied place other
  alike (refuses h t place) (allows g u) = not-both (sym t ∙ agree h ∙ u)
  alike (allows h t) (unlisted k) = absurd (omega arith)
  alike (allows h t) (refuses g u place) = not-both (sym u ∙ sym (agree h) ∙ t)
  alike (allows h t) (allows g u) = same (permitted 0)

single-enforced : {table : List ℕ} {tables : List (List ℕ)} {actions : ℕ} → StandsFor table tables actions → AllEnforced (table ∷ []) actions
single-enforced {table} s =
    record {
      some = λ e. let z : ◌≡◌ {A = ℕ} 0 1 = cc in omega arith;
      enforced = λ t m. ap type_of (Memᴰ.eq_of_singleton m) ∙ s.enforced;
      acting = λ t m. ap actions_of (Memᴰ.eq_of_singleton m) ∙ s.acting;
    }

module _ {table : List ℕ} {tables : List (List ℕ)} {actions : ℕ} (s : StandsFor table tables actions) where
  -- one more action
  module _ {later events later' others : List Event} (f : Follow tables table later events later' others) {old old' : View}
      (r : Run (later ++ events) old) (r' : Run (later' ++ others) old') (action : ℕ) {places places' : ℕ} {reply reply' : Reply} {change change' : Change}
      (p : StepOn places old (act action) reply change) (p' : StepOn places' old' (act action) reply' change') where
    agree : action < actions → some_trips tables (f.since ++ (action ∷ [])) ≡ some_trips (table ∷ []) (f.since ++ (action ∷ []))
    agree h =
        sym (s.reads (f.since ++ (action ∷ []))
        (sequence-append actions f.since (action ∷ []) (since-listed r f.holds s.all action) (h, tt)))
        ∙ sym (or-none _)

    alike-now : AlikeReplies reply reply'
    alike-now = alike agree (told r f.holds s.all action p) (told r' f.holds-one (single-enforced s) action p')

    next : Follow tables table (event (act action) reply ∷ later) events (event (act action) reply' ∷ later') others
    next =
        record {
          answers = one_more action alike-now f.answers;
          since = since_after (changes reply) f.since action;
          holds = holds_after f.holds action (changes reply);
          holds-one =
              subst (λ (b : Bool). Holds (event (act action) reply' ∷ (later' ++ others)) (table ∷ []) (since_after b f.since action)) (sym (changes-alike alike-now))
              (holds_after f.holds-one action (changes reply'));
        }

  -- Two boards that hold the tables and the one that stands for them, with the same actions permitted since, answer the
  -- same actions alike, and hold the same again.
  pub run-joined-board : {events others : List Event} {since : List ℕ} → Holds events tables since → Holds others (table ∷ []) since
      → {later later' : List Event} {asked : List ℕ} → ActsOnly later asked → ActsOnly later' asked
      → {view view' : View} → Run (later ++ events) view → Run (later' ++ others) view' → Follow tables table later events later' others
  run-joined-board {since = since} h h' none none r r' = record { answers = none-asked; since = since; holds = h; holds-one = h' }
  run-joined-board h h' (more action reply acts) (more _ reply' acts') r r' =
      let (old, change, places, g, p) = before r in
      let (old', change', places', g', p') = before r' in
      next (run-joined-board h h' acts acts' g g') g g' action p p'

module _ {table : List ℕ} {tables : List (List ℕ)} {actions : ℕ} (s : StandsFor table tables actions) where
  -- Two boards that hold the tables and the one that stands for them, with the same actions permitted since, answer the same actions alike, so that
  -- each is permitted by both or by neither and only the place that a denial names may differ, and they hold the same again.
  pub joined-board : {events others : List Event} {since : List ℕ} → Holds events tables since → Holds others (table ∷ []) since
      → {later later' : List Event} {asked : List ℕ} → ActsOnly later asked → ActsOnly later' asked
      → {board board' : Board} {area area' : List ℕ} → History (later ++ events) board area → History (later' ++ others) board' area'
      → Follow tables table later events later' others
  joined-board h h' acts acts' g g' = run-joined-board s h h' acts acts' (history-run g) (history-run g')
