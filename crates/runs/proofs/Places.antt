-- A view that is as a standing of each place says: its rules and its places, and that a board can hold it.
-- Assumes nothing.
use mathlib.Core.Path.{◌≡◌, refl, sym, ◌∙◌, ap, subst}
use mathlib.Core.Bool.{true, false}
use mathlib.Core.List.{List}
use Prim.Native.Nat.{ℕ, ◌<◌}
use native.Mathlib.Omega.{arith}
use Rattle.trace.proofs.Laws.{not-both}
use Rattle.table.specs.Table.{actions_of}
use Rattle.places.specs.Places.{taken}
use Rattle.view.specs.View.{View}
use Rattle.view.specs.Possible.{CaseFits, Possible}
use Rattle.places.specs.declared.Case.{Case}
use Rattle.runs.specs.Events.{PlaceState, nothing, rule}
use Rattle.runs.specs.Runs.{Keeps, PlaceIs, StateIs}
use Rattle.runs.proofs.Rules.{case-fits, after-taken}

-- nothing is no rule
pub no-rule : {A : Type 0} {table since : List ℕ} → nothing ≡ rule table since → A
no-rule e = absurd (let z : ◌≡◌ {A = ℕ} 0 1 = cc in omega arith)

pub same-table : {table other since since' : List ℕ} → rule table since ≡ rule other since' → table ≡ other
same-table e = cc

pub same-since : {table other since since' : List ℕ} → rule table since ≡ rule other since' → since ≡ since'
same-since e = cc

-- A place that is as a standing says, seen as a rule or as nothing.
place-rule : (stored : List ℕ) (s : PlaceState) (c : Case) (table since : List ℕ) → s ≡ rule table since → PlaceIs stored s c → Keeps stored table since c
place-rule stored s c table since e p = subst (λ (x : PlaceState). PlaceIs stored x c) e p

place-taken : (stored : List ℕ) (s : PlaceState) (c : Case) → PlaceIs stored s c → taken c ≡ true → (table since : List ℕ) × (s ≡ rule table since)
place-taken stored nothing c p t = not-both (sym t ∙ ap taken p)
place-taken stored (rule table since) c p t = (table, since, refl)

place-free : (stored : List ℕ) (s : PlaceState) (c : Case) → PlaceIs stored s c → taken c ≡ false → s ≡ nothing
place-free stored nothing c p t = refl
place-free stored (rule table since) c p t = not-both (sym (after-taken table p.after) ∙ t)

place-fits : (stored : List ℕ) (s : PlaceState) (c : Case) → PlaceIs stored s c → CaseFits stored c
place-fits stored nothing c p = subst (CaseFits stored) (sym p) tt
place-fits stored (rule table since) c p =
    subst (λ (l : List ℕ). CaseFits l c) (sym p.stands) (case-fits table p.accepted.formed since p.sequence p.after)

module _ {on : ℕ → PlaceState} {view : View} (s : StateIs on view) where
  pub keeps : (i : ℕ) (table since : List ℕ) → on i ≡ rule table since → Keeps (view.table i) table since (view.case i)
  keeps i table since e = place-rule (view.table i) (on i) (view.case i) table since e (s.each i)

  pub rule-taken : (i : ℕ) (table since : List ℕ) → on i ≡ rule table since → taken (view.case i) ≡ true
  rule-taken i table since e = after-taken table (keeps i table since e).after

  pub taken-rule : (i : ℕ) → taken (view.case i) ≡ true → (table since : List ℕ) × (on i ≡ rule table since)
  taken-rule i t = place-taken (view.table i) (on i) (view.case i) (s.each i) t

  pub free-nothing : (i : ℕ) → taken (view.case i) ≡ false → on i ≡ nothing
  free-nothing i t = place-free (view.table i) (on i) (view.case i) (s.each i) t

  pub nothing-free : (i : ℕ) → on i ≡ nothing → taken (view.case i) ≡ false
  nothing-free i e = ap taken (subst (λ (x : PlaceState). PlaceIs (view.table i) x (view.case i)) e (s.each i))

  -- Such a view can be.
  pub possible : (places : ℕ) → Possible places view
  possible places = record { fits = λ i h. place-fits (view.table i) (on i) (view.case i) (s.each i); one = alike }
    where
      alike : (i j : ℕ) → i < places → j < places → taken (view.case i) ≡ true → taken (view.case j) ≡ true → actions_of (view.table i) ≡ actions_of (view.table j)
      alike i j h g t u =
          let (table, since, e) = taken-rule i t in
          let (other, since', f) = taken-rule j u in
          ap actions_of (keeps i table since e).stands ∙ s.one i j table other since since' e f ∙ sym (ap actions_of (keeps j other since' f).stands)
