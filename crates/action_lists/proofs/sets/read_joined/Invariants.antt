-- `action_lists::sets::read_joined` meets its contract. The loop's invariant: the propositions so far with those that are left are all of them.
use mathlib.Core.Path.{◌≡◌}
use Prim.Native.Nat.{◌-◌, ◌≤◌}
use lib.ListN.{length}
use Rattle.fields.specs.Fields.{split_by, fields_from}
use Rattle.action_lists.specs.ActionLists.{with_all}
use Rattle.action_lists.proofs.sets.read_joined.Given as goal

abbrev pub invariant-loop-number : goal.invariant-loop-number
invariant-loop-number l = (l.from ≤ length l.word) × (with_all l.set (fields_from 43 l.word l.from) ≡ with_all 0 (split_by 43 l.word))

abbrev pub decreases-loop-number : goal.decreases-loop-number
decreases-loop-number l = length l.word - l.from
