-- `positions::word_at` meets its contract. The loop's invariant: from `at` on the word after those that are left to pass is the one that is looked for.
use mathlib.Core.Path.{◌≡◌}
use mathlib.Core.List.{[]}
use Prim.Native.Nat.{◌-◌, ◌≤◌}
use lib.ListN.{length, get_or}
use Rattle.grammar.specs.Words.{words_of}
use Rattle.lexer.specs.Next.{words_from}
use Rattle.positions.proofs.word_at.Given as goal

abbrev pub invariant-loop-passed : goal.invariant-loop-passed
invariant-loop-passed l = (l.at ≤ length l.text) × (get_or (words_from l.text l.at) (l.number - l.passed) [] ≡ get_or (words_of l.text) l.number [])
