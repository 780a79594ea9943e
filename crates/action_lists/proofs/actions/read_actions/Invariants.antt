-- `action_lists::actions::read_actions` meets its contract. The loop's invariant: the words so far are actions, and their sets are kept.
use Rattle.std.proofs.Common.{◌≡◌, length, drop}
use Rattle.grammar.specs.Words.{words_of}
use Rattle.action_lists.specs.ActionLists.{Actions}
use Rattle.action_lists.proofs.actions.read_actions.Given as goal

abbrev pub invariant-loop-number : goal.invariant-loop-number
invariant-loop-number l = (length l.sets ≡ length l.initial.sets) × (drop 16 l.sets ≡ drop 16 l.initial.sets) × Actions (words_of l.line) l.sets l.number
