-- Boards that hold several tables, or one for all of them, and what they answer to the same actions.
-- Assumes nothing.
use Rattle.std.specs.Prelude.{◌≡◌, List, [], ◌∷◌, ◌++◌, ℕ}
use Rattle.trace.specs.Trace.{Sequence, trips}
use Rattle.table.specs.Table.{type_of, actions_of, row_step}
use Rattle.view.specs.Steps.{act, Reply, denied}
use Rattle.runs.specs.Events.{Event, event}
use Rattle.runs.specs.Holding.{Holds}
use Rattle.joining.specs.Meaning.{some_trips}
use Rattle.joining_laws.specs.Sets.{AmongTables}

-- One table or more, all enforced, over one number of actions.
pub record AllEnforced (tables : List (List ℕ)) (actions : ℕ) : Type 0 where
  pub some : tables ≡ [] → ⊥
  pub enforced : (table : List ℕ) → AmongTables table tables → type_of table ≡ 1
  pub acting : (table : List ℕ) → AmongTables table tables → actions_of table ≡ actions

-- A table that stands for several: all are enforced, over one number of actions, and it trips where at least one of them does.
pub record StandsFor (table : List ℕ) (tables : List (List ℕ)) (actions : ℕ) : Type 0 where
  pub all : AllEnforced tables actions
  pub enforced : type_of table ≡ 1
  pub acting : actions_of table ≡ actions
  pub reads : (w : List ℕ) → Sequence actions w → trips (row_step table) 0 w ≡ some_trips tables w

-- The same answer; or both are denials, and may name different places.
pub data AlikeReplies : Reply → Reply → Type 0 where
  same : (reply : Reply) → AlikeReplies reply reply
  both-denied : (place other : ℕ) → AlikeReplies (denied place) (denied other)

-- The same actions with alike answers, one by one.
pub data AlikeAnswers : List Event → List Event → Type 0 where
  none : AlikeAnswers [] []
  more : {events others : List Event} {reply reply' : Reply} (action : ℕ) → AlikeReplies reply reply' → AlikeAnswers events others
      → AlikeAnswers (event (act action) reply ∷ events) (event (act action) reply' ∷ others)

-- Two boards, the one with several tables and the other with one for all of them, after the same actions: the answers to these are alike, and the
-- boards hold what they held, with the same actions permitted since.
pub record Follow (tables : List (List ℕ)) (table : List ℕ) (later events later' others : List Event) : Type 0 where
  pub answers : AlikeAnswers later later'
  pub since : List ℕ
  pub holds : Holds (later ++ events) tables since
  pub holds-one : Holds (later' ++ others) (table ∷ []) since
