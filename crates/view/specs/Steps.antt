-- A call on what a board holds, as one step: its checks in the order of docs/FORMATS.md, "The order of checks", and what is done where all of them pass.
-- Assumes nothing.
use Rattle.std.specs.Prelude.{◌≡◌, Bool, true, false, List, [], ◌∷◌, ℕ, ◌<◌}
use Rattle.base.specs.Sets.{set_below}
use Rattle.table.specs.Table.{type_of, actions_of, WellFormed, Canonical}
use Rattle.places.specs.Places.{taken}
use Rattle.places.specs.declared.Case.TheVariants.{Empty}
use Rattle.view.specs.View.{View, Change, stays, sets, moves}
use Rattle.view.specs.Moves.{first_case, denies_at, moved_at, fulfils_at, NoneDenies}

pub data Call : Type 0 where
  put_on : (place : ℕ) (table : List ℕ) → Call
  take-off : (place : ℕ) → Call
  act : (action : ℕ) → Call

-- An answer, by number and value (docs/FORMATS.md, "Answers").
pub data Reply : Type 0 where
  done : Reply
  permitted : (fulfilled : ℕ) → Reply
  denied : (place : ℕ) → Reply
  -- from the input: the number and the spot
  input : (number spot : ℕ) → Reply
  -- from the state: the number alone
  state : (number : ℕ) → Reply

-- The checks, each named for what it refuses.
pub data Check : Type 0 where
  short-area : Check
  no_place : (place : ℕ) → Check
  impossible : Check
  place-taken : (place : ℕ) → Check
  place-empty : (place : ℕ) → Check
  malformed : (table : List ℕ) → Check
  misnumbered : (table : List ℕ) → Check
  other-actions : (table : List ℕ) → Check
  board-empty : Check
  no-action : (action : ℕ) → Check

-- What is answered where a check does not pass (docs/FORMATS.md, "Refusals").
abbrev pub refusal : Check → Reply
refusal short-area = input 14 0
refusal (no_place place) = input 13 0
refusal impossible = state 25
refusal (place-taken place) = state 22
refusal (place-empty place) = state 21
refusal (malformed table) = input 10 0
refusal (misnumbered table) = input 11 0
refusal (other-actions table) = state 23
refusal board-empty = state 24
refusal (no-action action) = input 12 0

-- The checks of each call, in their order.
abbrev pub checks_of : Call → List Check
checks_of (put_on place table) = short-area ∷ no_place place ∷ impossible ∷ place-taken place ∷ malformed table ∷ misnumbered table ∷ other-actions table ∷ []
checks_of (take-off place) = short-area ∷ no_place place ∷ impossible ∷ place-empty place ∷ []
checks_of (act action) = short-area ∷ impossible ∷ board-empty ∷ no-action action ∷ []

-- No taken place has another number of actions.
abbrev pub SameActions : ℕ → View → ℕ → Type 0
SameActions places view actions = (i : ℕ) → i < places → taken (view.case i) ≡ true → actions_of (view.table i) ≡ actions

-- A rule is on.
pub record Occupied (places : ℕ) (view : View) : Type 0 where
  pub place : ℕ
  pub below : place < places
  pub on : taken (view.case place) ≡ true

-- A rule is on, and the action is in its list.
pub record InList (places : ℕ) (view : View) (action : ℕ) : Type 0 where
  pub place : ℕ
  pub below : place < places
  pub on : taken (view.case place) ≡ true
  pub listed : action < actions_of (view.table place)

-- What has to hold for a check to pass, on a board of so many places. Two checks are about the board and its area and not about what they hold: that the
-- area is long enough, and that the board can be. What they ask is a parameter.
abbrev pub Passes : (Long CanBe : Type 0) (places : ℕ) (view : View) → Check → Type 0
Passes Long CanBe places view short-area = Long
Passes Long CanBe places view (no_place place) = place < places
Passes Long CanBe places view impossible = CanBe
Passes Long CanBe places view (place-taken place) = taken (view.case place) ≡ false
Passes Long CanBe places view (place-empty place) = taken (view.case place) ≡ true
Passes Long CanBe places view (malformed table) = WellFormed table
Passes Long CanBe places view (misnumbered table) = Canonical table
Passes Long CanBe places view (other-actions table) = SameActions places view (actions_of table)
Passes Long CanBe places view board-empty = Occupied places view
Passes Long CanBe places view (no-action action) = InList places view action

-- What is answered and changed where every check passes. An action is denied by the lowest place that denies it, else permitted, with the set of the
-- places that it fulfils.
pub data Carries (places : ℕ) (view : View) : Call → Reply → Change → Type 0 where
  puts : {place : ℕ} {table : List ℕ} → Carries places view (put_on place table) done (sets place (first_case (type_of table)) table)
  takes : {place : ℕ} → Carries places view (take-off place) done (sets place Empty [])
  is-denied : {action : ℕ} (place : ℕ) → place < places → denies_at view action place ≡ true → NoneDenies view action place
      → Carries places view (act action) (denied place) stays
  is-permitted : {action : ℕ} → NoneDenies view action places
      → Carries places view (act action) (permitted (set_below (fulfils_at view action) places)) (moves (moved_at view action))

-- The first check that does not pass gives its refusal, and nothing is changed; where all pass, the call is carried out.
pub data Answers (Pass : Check → Type 0) (Carried : Reply → Change → Type 0) (reply : Reply) (change : Change) : List Check → Type 0 where
  refused : {check : Check} {rest : List Check} → (Pass check → ⊥) → reply ≡ refusal check → change ≡ stays → Answers Pass Carried reply change (check ∷ rest)
  passed : {check : Check} {rest : List Check} → Pass check → Answers Pass Carried reply change rest → Answers Pass Carried reply change (check ∷ rest)
  carried : Carried reply change → Answers Pass Carried reply change []

-- Every check passes: no refusal stated for the call applies.
abbrev pub AllPass : (Check → Type 0) → List Check → Type 0
AllPass Pass [] = Unit {0}
AllPass Pass (check ∷ rest) = Pass check × AllPass Pass rest

-- The first of these checks that does not pass is this one.
pub data Stops (Pass : Check → Type 0) (check : Check) : List Check → Type 0 where
  here : {rest : List Check} → (Pass check → ⊥) → Stops Pass check (check ∷ rest)
  later : {first : Check} {rest : List Check} → Pass first → Stops Pass check rest → Stops Pass check (first ∷ rest)

-- A call on a view with so many places: its answer, and what it changes.
abbrev pub CallStep : (Long CanBe : Type 0) (places : ℕ) (view : View) → Call → Reply → Change → Type 0
CallStep Long CanBe places view call reply change = Answers (Passes Long CanBe places view) (Carries places view call) reply change (checks_of call)

-- Whether an answer changes the board: a refusal and a denial do not.
abbrev pub changes : Reply → Bool
changes done = true
changes (permitted fulfilled) = true
changes (denied place) = false
changes (input number spot) = false
changes (state number) = false

-- Whether an answer is a refusal.
abbrev pub is_refusal : Reply → Bool
is_refusal done = false
is_refusal (permitted fulfilled) = false
is_refusal (denied place) = false
is_refusal (input number spot) = true
is_refusal (state number) = true
