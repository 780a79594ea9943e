-- Histories of a board with its area.
-- Assumes nothing.
use Rattle.std.specs.Prelude.{List, [], ◌∷◌, ℕ}
use Rattle.places.specs.declared.Board.{Board}
use Rattle.view.specs.Steps.{Call, Reply, done}
use Rattle.view.specs.Calls.{Makes, Calls}
use Rattle.runs.specs.Events.{Event, event}

-- A board used, with its whole area, only through its calls: these events, the newest first, lead from a new board to this board and area.
pub data History : List Event → Board → List ℕ → Type 0 where
  new : {lent area : List ℕ} {board : Board} → Makes lent done board area → History [] board area
  called : {events : List Event} {board board' : Board} {area area' : List ℕ} {call : Call} {reply : Reply}
      → History events board area → Calls board area call reply board' area' → History (event call reply ∷ events) board' area'
