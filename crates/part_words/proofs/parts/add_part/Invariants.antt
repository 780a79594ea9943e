-- `part_words::parts::add_part` meets its contract. The loop's invariant: what is added for the nodes on the stack completes the part.
use mathlib.Core.Path.{◌≡◌}
use mathlib.Core.List.{List}
use Prim.Native.Nat.{ℕ, ◌+◌, ◌*◌, ◌≤◌}
use lib.ListN.{length, drop}
use Rattle.messages.specs.Adding.{Adds}
use Rattle.part_words.specs.Parts.{stack_text, part_text}
use Rattle.part_words.proofs.parts.add_part.Given as goal

abbrev pub invariant-loop-from : goal.invariant-loop-from
invariant-loop-from l =
    (length l.stack ≡ 130) × (1 + 2 * l.left ≤ l.from) × (l.from ≤ 130) × (l.left ≤ 64) × (length l.text ≡ length l.initial.text)
    × ((new : List ℕ) (e : ℕ) → Adds l.text l.end (stack_text l.sheet l.left (drop l.from l.stack)) new e → Adds l.initial.text l.at (part_text l.sheet l.node) new e)

abbrev pub decreases-loop-from : goal.decreases-loop-from
decreases-loop-from l = l.left
