-- Demand 2 on actions, for a view that is as its events say: the answer to an action of the list.
-- Assumes nothing.
use mathlib.Core.Path.{◌≡◌, refl, sym, ◌∙◌, ap, subst}
use mathlib.Core.Bool.{true, false}
use mathlib.Core.List.{List, [], ◌∷◌, ◌++◌}
use mathlib.Core.Logic.{◌↔◌}
use Prim.Native.Nat.{ℕ, ◌<◌}
use Rattle.base.specs.Sets.{Member, set_below}
use Rattle.base.proofs.Sets.{member-test, test-member}
use Rattle.trace.proofs.Laws.{not-both}
use Rattle.table.specs.Table.{type_of, actions_of, verdict}
use Rattle.places.specs.Places.{taken}
use Rattle.view.specs.View.{View, Change}
use Rattle.view.specs.Moves.{denies, fulfils, denies_at, fulfils_at}
use Rattle.view.specs.Steps.{act, Reply, InList, Carries, is-denied, is-permitted}
use Rattle.runs.specs.Events.{Event, PlaceState, nothing, rule, on_place}
use Rattle.runs.specs.Runs.{PlaceIs, StateIs}
use Rattle.runs.specs.Verdicts.{ActionListed, Violated, NoneViolated, FirstFulfilled, Judges, permits, denies-lowest}
use Rattle.runs.proofs.Rules.{denies-violated, not-denied, fulfils-now, now-fulfils, unfulfilled-exactly}
use Rattle.runs.proofs.Places.{keeps, rule-taken, taken-rule}

module _ (events : List Event) {view : View} (s : StateIs (on_place events) view) (action : ℕ) where
  -- a place that denies has an enforced rule that is violated
  denied-violated : (i : ℕ) → denies_at view action i ≡ true → Violated events action i
  denied-violated i d = at (on_place events i) refl (s.each i)
    where
      at : (x : PlaceState) → on_place events i ≡ x → PlaceIs (view.table i) x (view.case i) → Violated events action i
      at nothing e p = not-both (sym d ∙ ap (denies (view.table i) action) p)
      at (rule table since) e p =
          let v = denies-violated table since action p.after (rw p.stands at d) in
          record { table = table; since = since; on = e; enforced = v.0; violated = v.1 }

  -- and one that does not has none
  not-violated : (i : ℕ) → denies_at view action i ≡ false → (table since : List ℕ) → on_place events i ≡ rule table since → type_of table ≡ 1
      → verdict table (since ++ (action ∷ [])) ≡ true
  not-violated i d table since e t = let k = keeps s i table since e in not-denied table since action k.after (rw k.stands at d) t

  fulfils-first : (i : ℕ) → fulfils_at view action i ≡ true → FirstFulfilled events action i
  fulfils-first i f = at (on_place events i) refl (s.each i)
    where
      at : (x : PlaceState) → on_place events i ≡ x → PlaceIs (view.table i) x (view.case i) → FirstFulfilled events action i
      at nothing e p = not-both (sym f ∙ ap (fulfils (view.table i) action) p)
      at (rule table since) e p =
          let v = fulfils-now table since action p.after (rw p.stands at f) in
          record {
            table = table;
            since = since;
            on = e;
            watched = v.0;
            fulfilled = v.2;
            shortest = (unfulfilled-exactly table v.0 since).1 v.1;
          }

  first-fulfils : (i : ℕ) → FirstFulfilled events action i → fulfils_at view action i ≡ true
  first-fulfils i f =
      let k = keeps s i f.table f.since f.on in
      rw k.stands (now-fulfils f.table f.since action k.after f.watched ((unfulfilled-exactly f.table f.watched f.since).0 f.shortest) f.fulfilled)

  pub in-list-listed : {places : ℕ} → InList places view action → ActionListed events action
  in-list-listed l =
      let (table, since, e) = taken-rule s l.place l.on in
      let k = keeps s l.place table since e in
      record { place = l.place; table = table; since = since; on = e; below = subst (λ (n : ℕ). action < n) (ap actions_of k.stands) l.listed }

  pub listed-in-list : {places : ℕ} → ((i : ℕ) → taken (view.case i) ≡ true → i < places) → ActionListed events action → InList places view action
  listed-in-list above l =
      let k = keeps s l.place l.table l.since l.on in
      let t = rule-taken s l.place l.table l.since l.on in
      record { place = l.place; below = above l.place t; on = t; listed = subst (λ (n : ℕ). action < n) (sym (ap actions_of k.stands)) l.below }

  -- The answer to an action of the list: the set in a permitted one is that of the places whose watched rule the action is the first to fulfil.
  pub carried-judges : {places : ℕ} → ((i : ℕ) → taken (view.case i) ≡ true → i < places) → {reply : Reply} {change : Change}
      → Carries places view (act action) reply change → Judges events action reply
  carried-judges above (is-denied place h d n) = denies-lowest place (denied-violated place d) lowest
    where
      lowest : (i : ℕ) → i < place → Violated events action i → ⊥
      lowest i g v = not-both (sym (not-violated i (n i g) v.table v.since v.on v.enforced) ∙ v.violated)
  carried-judges {places} above (is-permitted n) = permits (set_below (fulfils_at view action) places) none members
    where
      below : (i : ℕ) (table since : List ℕ) → on_place events i ≡ rule table since → i < places
      below i table since e = above i (rule-taken s i table since e)

      none : NoneViolated events action
      none i table since e t = not-violated i (n i (below i table since e)) table since e t

      members : (i : ℕ) → Member (set_below (fulfils_at view action) places) i ↔ FirstFulfilled events action i
      members i = (
        λ m. fulfils-first i (member-test (fulfils_at view action) places i m).1,
        λ f. test-member (fulfils_at view action) places i (below i f.table f.since f.on) (first-fulfils i f),
      )
