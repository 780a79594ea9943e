-- A record and an area used only through the exported calls, with each answer read from the number that its call returns.
-- Assumes nothing.
use Rattle.std.specs.Prelude.{◌≡◌, cond, List, [], ◌∷◌, ◌⊎◌, ℕ, eqb, ltb}
use Rattle.base.specs.Fields.{field_in}
use Rattle.view.specs.Steps.{Call, put_on, take-off, act, Reply, done, permitted, denied, input, state}
use Rattle.runs.specs.Events.{Event, event}
use Rattle.lemondarts.specs.Exports.{NewBoardReturns, CallReturns}

-- The lowest field of a returned number, and the next.
abbrev pub number_in : ℕ → ℕ
number_in returned = field_in 0 returned

abbrev pub value_in : ℕ → ℕ
value_in returned = field_in 1 returned

-- An answer by its number and value. Refusals from the input have numbers up to 14, those from the state from 21.
abbrev pub reply_by : Reply → (number value : ℕ) → Reply
reply_by good number value =
    cond (eqb number 0) good (cond (eqb number 255) (denied value) (cond (ltb number 21) (input number value) (state number)))

-- What the number 0 says, with its value: done, or that an action is permitted and which places it fulfils.
abbrev pub zero_reply : Call → (value : ℕ) → Reply
zero_reply (put_on place table) value = done
zero_reply (take-off place) value = done
zero_reply (act action) value = permitted value

-- What a call answered, by the number that it returned.
abbrev pub reply_in : Call → ℕ → Reply
reply_in call returned = reply_by (zero_reply call (value_in returned)) (number_in returned) (value_in returned)

-- The number says that the call was carried out: 0, or for an action 255, a denial.
abbrev pub Succeeds : Call → ℕ → Type 0
Succeeds (put_on place table) returned = number_in returned ≡ 0
Succeeds (take-off place) returned = number_in returned ≡ 0
Succeeds (act action) returned = (number_in returned ≡ 0) ⊎ (number_in returned ≡ 255)

-- Calls on one record and one area, from a new board made with number 0. The events are those of the board's histories, newest first.
pub data Session : List Event → (bytes area : List ℕ) → Type 0 where
  begun : {lent old bytes area : List ℕ} → NewBoardReturns old lent 0 bytes area → Session [] bytes area
  called : {events : List Event} {bytes area bytes' area' : List ℕ} {call : Call} {returned : ℕ}
      → Session events bytes area → CallReturns bytes area call returned bytes' area' → Session (event call (reply_in call returned) ∷ events) bytes' area'
