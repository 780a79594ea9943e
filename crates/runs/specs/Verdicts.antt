-- When a call is carried out, and what an action is answered, by the events alone. Demand 2's sentences on the board are said in these terms.
-- Assumes nothing.
use Rattle.std.specs.Prelude.{◌≡◌, true, false, List, [], ◌∷◌, ◌++◌, ◌↔◌, ℕ, ◌<◌}
use Rattle.base.specs.Sets.{Member}
use Rattle.table.specs.Table.{type_of, actions_of, Accepted, verdict}
use Rattle.view.specs.Steps.{Call, put_on, take-off, act, Reply, permitted, denied}
use Rattle.runs.specs.Events.{Event, nothing, rule, on_place}

-- No refusal stated for putting on applies: 13, 22, 10 and 11, 23.
pub record MayPut (places : ℕ) (events : List Event) (place : ℕ) (table : List ℕ) : Type 0 where
  pub below : place < places
  pub free : on_place events place ≡ nothing
  pub accepted : Accepted table
  pub agreeing : (i : ℕ) (other since : List ℕ) → on_place events i ≡ rule other since → actions_of other ≡ actions_of table

-- No refusal stated for taking off applies: 13, 21.
pub record MayTake (places : ℕ) (events : List Event) (place : ℕ) : Type 0 where
  pub below : place < places
  pub on : on_place events place ≡ nothing → ⊥

-- No refusal stated for an action applies, 24 and 12: the board holds a rule, and the action is of its list.
pub record ActionListed (events : List Event) (action : ℕ) : Type 0 where
  pub place : ℕ
  pub table : List ℕ
  pub since : List ℕ
  pub on : on_place events place ≡ rule table since
  pub below : action < actions_of table

-- No refusal stated for the call applies.
abbrev pub May : (places : ℕ) (events : List Event) → Call → Type 0
May places events (put_on place table) = MayPut places events place table
May places events (take-off place) = MayTake places events place
May places events (act action) = ActionListed events action

-- The place's enforced rule is violated by the actions permitted since it was put on, followed by this one.
pub record Violated (events : List Event) (action place : ℕ) : Type 0 where
  pub table : List ℕ
  pub since : List ℕ
  pub on : on_place events place ≡ rule table since
  pub enforced : type_of table ≡ 1
  pub violated : verdict table (since ++ (action ∷ [])) ≡ false

-- No enforced rule is violated: each is satisfied by the actions permitted since it was put on, followed by this one.
abbrev pub NoneViolated : List Event → ℕ → Type 0
NoneViolated events action = (i : ℕ) (table since : List ℕ) → on_place events i ≡ rule table since → type_of table ≡ 1 → verdict table (since ++ (action ∷ [])) ≡ true

-- The place's watched rule is first fulfilled by this action: the shortest sequence that satisfies it is the actions permitted since it was put
-- on, followed by this one.
pub record FirstFulfilled (events : List Event) (action place : ℕ) : Type 0 where
  pub table : List ℕ
  pub since : List ℕ
  pub on : on_place events place ≡ rule table since
  pub watched : type_of table ≡ 2
  pub fulfilled : verdict table (since ++ (action ∷ [])) ≡ true
  pub shortest : (earlier later : List ℕ) → since ≡ earlier ++ later → verdict table earlier ≡ false

-- The answer to an action of the list.
pub data Judges (events : List Event) (action : ℕ) : Reply → Type 0 where
  permits : (set : ℕ) → NoneViolated events action → ((i : ℕ) → Member set i ↔ FirstFulfilled events action i) → Judges events action (permitted set)
  denies-lowest : (place : ℕ) → Violated events action place → ((i : ℕ) → i < place → Violated events action i → ⊥) → Judges events action (denied place)

abbrev pub IsPermitted : Reply → Type 0
IsPermitted reply = (set : ℕ) × (reply ≡ permitted set)
