-- The answers of making a board, putting on and taking off in the numbers and values of docs/FORMATS.md, "Refusals", one line a case.
-- Assumes nothing.
use Rattle.std.specs.Prelude.{Result, Ok, Err}
use Rattle.table.specs.declared.LoadError.{LoadError}
use Rattle.table.specs.declared.LoadError.TheVariants.{Malformed, NotCanonical}
use Rattle.view.specs.Steps.{Reply, done, input, state}
use Rattle.board_checks.specs.declared.targets.TargetError.{TargetError}
use Rattle.board_checks.specs.declared.targets.TargetError.TheVariants as target
use Rattle.board.specs.declared.errors.MakeError.{MakeError}
use Rattle.board.specs.declared.errors.MakeError.TheVariants as made
use Rattle.board.specs.declared.errors.PutError.{PutError}
use Rattle.board.specs.declared.errors.PutError.TheVariants as put
use Rattle.board.specs.declared.errors.TakeError.{TakeError}
use Rattle.board.specs.declared.errors.TakeError.TheVariants as take

abbrev pub made_reply : Result (Unit {0}) MakeError → Reply
made_reply (Ok u) = done
made_reply (Err made.ShortArea) = input 14 0

-- What is found at a place, and what the loader finds.
abbrev pub target_reply : TargetError → Reply
target_reply target.ShortArea = input 14 0
target_reply target.NoPlace = input 13 0
target_reply target.Impossible = state 25

abbrev pub load_reply : LoadError → Reply
load_reply Malformed = input 10 0
load_reply NotCanonical = input 11 0

abbrev pub put_reply : Result (Unit {0}) PutError → Reply
put_reply (Ok u) = done
put_reply (Err (put.Target error)) = target_reply error
put_reply (Err put.Taken) = state 22
put_reply (Err (put.Load error)) = load_reply error
put_reply (Err put.OtherActions) = state 23

abbrev pub take_reply : Result (Unit {0}) TakeError → Reply
take_reply (Ok u) = done
take_reply (Err (take.Target error)) = target_reply error
take_reply (Err take.EmptyPlace) = state 21
