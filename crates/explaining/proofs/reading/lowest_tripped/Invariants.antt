-- `explaining::reading::lowest_tripped` meets its contract. The loop's invariant: the list does not trip the set's nodes before n.
use mathlib.Core.Path.{◌≡◌}
use mathlib.Core.Bool.{true, false}
use Prim.Native.Nat.{ℕ, ◌<◌}
use Rattle.base.specs.Sets.{bit}
use Rattle.trace.specs.Trace.{trips}
use Rattle.rules.specs.Rules.{part_at}
use Rattle.explaining.proofs.reading.lowest_tripped.Given as goal

abbrev pub invariant-loop-n : goal.invariant-loop-n
invariant-loop-n l = (k : ℕ) → k < l.n → bit l.set k ≡ true → trips (part_at l.parts.actions l.parts.work.now k) 0 l.list ≡ false
