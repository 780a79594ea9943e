-- `part_words::parts::push_parts` meets its contract. The loop's invariant: the parts from the next one on are on the stack.
use mathlib.Core.Path.{◌≡◌}
use mathlib.Core.List.{◌++◌}
use Prim.Native.Nat.{◌+◌, ◌≤◌}
use lib.ListN.{length, drop}
use Rattle.sheet_layout.specs.Layout.{field}
use Rattle.part_words.specs.Kinds.{part_count}
use Rattle.part_words.specs.Parts.{node_parts}
use Rattle.part_words.proofs.parts.push_parts.Given as goal

abbrev pub invariant-loop-part : goal.invariant-loop-part
invariant-loop-part l =
    (length l.stack ≡ length l.initial.stack) × (l.part ≤ part_count (field l.sheet l.node 0)) × (l.top + part_count (field l.sheet l.node 0) ≡ l.from + l.part)
    × (drop l.top l.stack ≡ drop l.part (node_parts l.sheet l.node) ++ drop l.from l.initial.stack)
