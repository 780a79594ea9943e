-- The answers to an action in the numbers and values of docs/FORMATS.md, "Refusals", one line a case.
-- Assumes nothing.
use Rattle.std.specs.Prelude.{Result, Ok, Err}
use Rattle.view.specs.Steps.{Reply, permitted, denied, input, state}
use Rattle.board_checks.specs.declared.asking.AskError.{AskError}
use Rattle.board_checks.specs.declared.asking.AskError.TheVariants as refused
use Rattle.board_actions.specs.declared.Verdict.{Verdict}
use Rattle.board_actions.specs.declared.Verdict.TheVariants.{Permitted, Denied}

abbrev pub act_reply : Result Verdict AskError → Reply
act_reply (Ok (Permitted fulfilled)) = permitted fulfilled
act_reply (Ok (Denied place)) = denied place
act_reply (Err refused.ShortArea) = input 14 0
act_reply (Err refused.Impossible) = state 25
act_reply (Err refused.EmptyBoard) = state 24
act_reply (Err refused.NoAction) = input 12 0
