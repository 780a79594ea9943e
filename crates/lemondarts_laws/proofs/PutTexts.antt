-- Where each table that was put on comes from a text, so does each rule on the board.
-- Assumes nothing.
use mathlib.Core.Path.{◌≡◌, refl, subst}
use mathlib.Core.List.{List, [], ◌∷◌}
use Prim.Native.Nat.{ℕ}
use Rattle.runs.specs.Events.{Event, Effect, none, put, off, read, effect_at, PlaceState, nothing, rule, after_effect, on_place}
use Rattle.runs.proofs.Places.{no-rule, same-table}
use Rattle.parser_laws.specs.Boards.{FromText, EnforcedTexts}
use Rattle.lemondarts_laws.specs.TextTables.{PutTexts}

-- what is on a place was put there by one of the events
module _ (table : List ℕ) where
  by-effect : (e : Effect) (x : PlaceState) (since : List ℕ) → ((other : List ℕ) → e ≡ put other → FromText other) → ((earlier : List ℕ) → x ≡ rule table earlier → FromText table)
      → after_effect e x ≡ rule table since → FromText table
  by-effect none x since made rest e = rest since e
  by-effect (put other) x since made rest e = subst FromText (same-table e) (made other refl)
  by-effect off x since made rest e = no-rule e
  by-effect (read action) nothing since made rest e = no-rule e
  by-effect (read action) (rule other earlier) since made rest e = rest earlier (cc)

  on-from-text : (events : List Event) → PutTexts events → (i : ℕ) (since : List ℕ) → on_place events i ≡ rule table since → FromText table
  on-from-text [] p i since on = no-rule on
  on-from-text (e ∷ events) p i since on = by-effect (effect_at e i) (on_place events i) since (p.0 i) (on-from-text events p.1 i) on

pub put-texts-on : (events : List Event) → PutTexts events → EnforcedTexts events
put-texts-on events p i table since on enforced = on-from-text table events p i since on
