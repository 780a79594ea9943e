-- `action_lists::names::action_named` meets its contract. The loop's invariant: the words so far have other names.
use mathlib.Core.Path.{◌≡◌}
use Prim.Native.Nat.{◌+◌, ◌-◌, ◌≤◌}
use lib.ListN.{length}
use Rattle.grammar.specs.Words.{words_of}
use Rattle.lexer.specs.Next.{words_from}
use Rattle.action_lists.specs.ActionLists.{action_named}
use Rattle.action_lists.proofs.names.action_named.Given as goal

abbrev pub invariant-loop-name : goal.invariant-loop-name
invariant-loop-name l =
    (l.at ≤ length l.list) × (l.number ≤ l.at) × (action_named (words_of l.list) l.name ≡ l.number + action_named (words_from l.list l.at) l.name)

abbrev pub decreases-loop-name : goal.decreases-loop-name
decreases-loop-name l = length l.list - l.at
