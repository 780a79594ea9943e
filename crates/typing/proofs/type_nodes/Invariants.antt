-- `typing::type_nodes` meets its contract. The loop's invariant: the array has the types of the used nodes before n.
use mathlib.Core.Path.{◌≡◌}
use Rattle.typing.specs.Typed.{typed, type_nodes}
use Rattle.typing.proofs.type_nodes.Given as goal

abbrev pub invariant-loop-n : goal.invariant-loop-n
invariant-loop-n l = type_nodes l.used l.nodes l.n ≡ typed l.types
