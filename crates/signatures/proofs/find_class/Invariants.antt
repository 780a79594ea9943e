-- `signatures::find_class` meets its contract. The invariant over the first members: none of a class below c has the signature of s. The one over
-- the actions: the classes behind those below a are the same.
use mathlib.Core.Path.{◌≡◌}
use Prim.Native.Nat.{ℕ, ◌<◌}
use Rattle.automaton.specs.Partition.{first_of, SameSignature}
use Rattle.automaton.proofs.Compared.{behind_of}
use Rattle.signatures.proofs.find_class.Given as goal

abbrev pub invariant-loop-a : goal.invariant-loop-a
invariant-loop-a l =
    (k : ℕ) → k < l.a → behind_of l.machine.actions l.machine.next.now l.classes l.first k ≡ behind_of l.machine.actions l.machine.next.now l.classes l.s k

abbrev pub invariant-rows : goal.invariant-rows
invariant-rows l = (d : ℕ) → d < l.c → SameSignature l.machine.actions l.machine.next.now l.classes (first_of l.firsts d) l.s → ⊥
