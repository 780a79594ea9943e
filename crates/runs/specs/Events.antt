-- Events of a board, a call with its answer each, and what they alone say of the rule on each place.
-- Assumes nothing.
use Rattle.std.specs.Prelude.{◌≡◌, Bool, true, false, cond, List, [], ◌∷◌, ◌++◌, ℕ, eqb}
use Rattle.view.specs.Steps.{Call, put_on, take-off, act, Reply, done, permitted, denied, input, state, changes}

-- A call and its answer.
pub data Event : Type 0 where
  event : (call : Call) (reply : Reply) → Event

-- What an event does to a place: nothing, a table is put on it, its rule is taken off, or its rule reads an action.
pub data Effect : Type 0 where
  none : Effect
  put : (table : List ℕ) → Effect
  off : Effect
  read : (action : ℕ) → Effect

-- What a call does to place i where it is carried out.
abbrev pub effect_of : Call → ℕ → Effect
effect_of (put_on place table) i = cond (eqb place i) (put table) none
effect_of (take-off place) i = cond (eqb place i) off none
effect_of (act action) i = read action

-- A refusal and a denial do nothing.
abbrev pub effect_at : Event → ℕ → Effect
effect_at (event call reply) i = cond (changes reply) (effect_of call i) none

-- What events say of a place: nothing is on it, or the rule of a table, with the actions that it has read since it was put on, in their order.
pub data PlaceState : Type 0 where
  nothing : PlaceState
  rule : (table since : List ℕ) → PlaceState

-- one more action
abbrev pub followed : ℕ → PlaceState → PlaceState
followed action nothing = nothing
followed action (rule table since) = rule table (since ++ (action ∷ []))

abbrev pub after_effect : Effect → PlaceState → PlaceState
after_effect none x = x
after_effect (put table) x = rule table []
after_effect off x = nothing
after_effect (read action) x = followed action x

-- The newest event stands first.
abbrev pub on_place : List Event → ℕ → PlaceState
on_place [] i = nothing
on_place (e ∷ events) i = after_effect (effect_at e i) (on_place events i)

abbrev pub is_off : Effect → Bool
is_off none = false
is_off (put table) = false
is_off off = true
is_off (read action) = false

-- The rule on the place was taken off at one of the events.
abbrev pub taken_off : ℕ → List Event → Bool
taken_off i [] = false
taken_off i (e ∷ events) = cond (is_off (effect_at e i)) true (taken_off i events)

abbrev pub reply_of : Event → Reply
reply_of (event call reply) = reply

-- The number of a refusal (docs/FORMATS.md, "Refusals"); 0 for an answer that is none.
abbrev pub refusal_number : Reply → ℕ
refusal_number done = 0
refusal_number (permitted set) = 0
refusal_number (denied place) = 0
refusal_number (input number spot) = number
refusal_number (state number) = number

-- No call was refused by this number.
abbrev pub NeverRefused : ℕ → List Event → Type 0
NeverRefused number [] = Unit {0}
NeverRefused number (e ∷ events) = (refusal_number (reply_of e) ≡ number → ⊥) × NeverRefused number events
