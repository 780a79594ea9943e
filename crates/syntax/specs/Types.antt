-- The type of a node from those of its parts: check 6, and check 7, the bound.
-- Assumes nothing.
use Rattle.std.specs.Prelude.{None, Result, Ok, Err, Bool, true, cond, List, ℕ, leb, get_or}
use Rattle.trace.specs.declared.Mode.{Mode}
use Rattle.trace.specs.declared.Mode.TheVariants.{Watched as watched, Enforced as enforced}
use Rattle.policy.specs.declared.Bound.{Bound}
use Rattle.policy.specs.declared.Bound.TheVariants.{Finite as finite, Unbounded as unbounded}
use Rattle.policy.specs.Typing.{typed, Typing, on_mode, if_watched, if_enforced, alike_typed, type_now, type_holds, type_count, type_not, type_eventually, type_always, type_before-, type_before+, type_after-, type_after+, type_fulfilling, type_ignoring}
use Rattle.syntax.specs.Shape.{True, False, Proposition, Count, Negation, Now, Holds, Not, Eventually, Always, Conjunction, Disjunction, And, Or, BeforeMinus, BeforePlus, AfterMinus, AfterPlus, Ignoring, Fulfilling, Shape, leaf, unary, binary, ternary, shape_of, with_parts}
use Rattle.syntax.specs.declared.Node.{Node}
use Rattle.syntax.specs.declared.NodeType.{NodeType}
use Rattle.syntax.specs.declared.NodeType.TheVariants.{Unused, Formula, Policy}
use Rattle.syntax.specs.declared.TypeError.{TypeError}
use Rattle.syntax.specs.declared.TypeError.TheVariants.{Unfit, TooLong}

-- The type of node i among those before.
abbrev pub type_at : List NodeType → ℕ → NodeType
type_at types i = get_or types i Unused

-- A part that has to be a policy has its type; any other has none.
abbrev pub typing_of : NodeType → Typing
typing_of Unused = None
typing_of Formula = None
typing_of (Policy m k) = typed m k

-- What typing a node finds: its type, or that check 6 or 7 fails.
abbrev pub TypeFound : Type 0
TypeFound = Result NodeType TypeError

-- A part that has to be an action formula: check 6 of it, and what is found where it passes.
abbrev pub formula_found : NodeType → Result (Unit {0}) TypeError
formula_found Unused = Err Unfit
formula_found Formula = Ok tt
formula_found (Policy m k) = Err Unfit

abbrev pub if_formula : NodeType → TypeFound → TypeFound
if_formula Unused found = Err Unfit
if_formula Formula found = found
if_formula (Policy m k) found = Err Unfit

-- A part that has to be of a mode.
abbrev pub only_as : Mode → Typing → Typing
only_as m t = on_mode m (if_watched t (λ k. typed watched k)) (if_enforced t (λ k. typed enforced k))

-- Bounds are 1 to 65,534, or unbounded.
abbrev pub bound_fits : Bound → Bool
bound_fits (finite k) = leb k 65534
bound_fits unbounded = true

abbrev pub found : Typing → TypeFound
found (typed m k) = cond (bound_fits k) (Ok (Policy m k)) (Err TooLong)
found None = Err Unfit

-- The type of a node over those of its parts.
abbrev pub type_from : Shape NodeType → TypeFound
type_from (leaf True) = Ok Formula
type_from (leaf False) = Ok Formula
type_from (leaf (Proposition p)) = Ok Formula
type_from (unary Negation a) = if_formula a (Ok Formula)
type_from (binary Conjunction a b) = if_formula a (if_formula b (Ok Formula))
type_from (binary Disjunction a b) = if_formula a (if_formula b (Ok Formula))
type_from (unary Now a) = if_formula a (found type_now)
type_from (unary Holds a) = if_formula a (found type_holds)
type_from (leaf (Count k)) = found (type_count k)
type_from (unary Not a) = found (type_not (typing_of a))
type_from (binary And a b) = found (alike_typed (typing_of a) (typing_of b))
type_from (binary Or a b) = found (alike_typed (typing_of a) (typing_of b))
type_from (unary Eventually a) = found (type_eventually (typing_of a))
type_from (unary Always a) = found (type_always (typing_of a))
type_from (binary BeforeMinus a b) = found (type_before- (typing_of a) (typing_of b))
type_from (binary BeforePlus a b) = found (type_before+ (typing_of a) (typing_of b))
type_from (binary AfterMinus a b) = found (type_after- (typing_of a) (typing_of b))
type_from (binary AfterPlus a b) = found (type_after+ (typing_of a) (typing_of b))
type_from (ternary (Fulfilling k) a b c) = found (type_fulfilling k (typing_of a) (typing_of b) (typing_of c))
type_from (binary Ignoring a b) = if_formula a (found (type_ignoring (typing_of b)))

-- `types i` is the type of node i.
abbrev pub type_node : Node → (ℕ → NodeType) → TypeFound
type_node node types = type_from (with_parts types (shape_of node))
