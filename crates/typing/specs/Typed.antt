-- Checks 6 and 7 of the used nodes of a sheet, one by one, and the last node's 6: the first fault, or the types of the nodes.
-- Assumes nothing.
use Rattle.syntax.specs.declared.Node.{Node}
use Rattle.std.specs.Prelude.{Err, Ok, ◌≡◌, cond, List, ℕ, zero, suc, ◌-◌, ◌<◌, set, replicate}
use Rattle.base.specs.Sets.{bit}
use Rattle.trace.specs.declared.Mode.{Mode}
use Rattle.policy.specs.declared.Bound.{Bound}
use Rattle.policy.specs.Typing.{typed as Typed, policy_type}
use Rattle.syntax.specs.Nodes.{node_at, node_of}
use Rattle.syntax.specs.Faults.{type_fault}
use Rattle.syntax.specs.Formed.{Formed}
use Rattle.syntax.specs.Types.{TypeFound, type_at, type_node}
use Rattle.syntax.specs.Meaning.{Meaning, formula, policy}
use Rattle.syntax.specs.declared.Sheet.{Sheet}
use Rattle.syntax.specs.declared.NodeType.{NodeType}
use Rattle.syntax.specs.declared.NodeType.TheVariants.{Unused, Formula, Policy}
use Rattle.syntax.specs.declared.Fault.{Fault}
use Rattle.syntax.specs.declared.Fault.TheVariants.{WrongTypeAt}
use Rattle.syntax.specs.declared.TypedNodes.{TypedNodes}
use Rattle.reached.specs.Parts.{Used, used_set}

-- The types of the first nodes, `Unused` after them; or the first fault, with the types of the nodes before it.
pub data Typings : Type 0 where
  mistyped : Fault → List NodeType → Typings
  typed : List NodeType → Typings

abbrev pub no_types : List NodeType
no_types = replicate 64 Unused

-- checks 6 and 7 of node n, the nodes before it having `types`
abbrev pub type_next : ℕ → List NodeType → TypeFound → Typings
type_next n types (Ok t) = typed (set types n t)
type_next n types (Err error) = mistyped (type_fault error n) types

-- an earlier fault stays
abbrev pub unless_mistyped : Typings → (List NodeType → Typings) → Typings
unless_mistyped (mistyped f types) next = mistyped f types
unless_mistyped (typed types) next = next types

-- the first n nodes, one after the other; those that are not in the set are passed over
abbrev pub type_nodes : (used : ℕ) → List Node → ℕ → Typings
type_nodes used nodes zero = typed no_types
type_nodes used nodes (suc n) =
    unless_mistyped (type_nodes used nodes n)
    (λ types. cond (bit used n) (type_next n types (type_node (node_at nodes n) (type_at types))) (typed types))

-- What the code returns of it.
abbrev pub typed_nodes : Typings → TypedNodes
typed_nodes (mistyped f types) = record { judged = Err f; types = types }
typed_nodes (typed types) = record { judged = (Ok tt); types = types }

-- The outcome of the checks: the first fault, or the policy's mode with the sheet and the types of its nodes.
pub data Judgement : Type 0 where
  faulty : Fault → Judgement
  sound : Mode → Sheet → List NodeType → Judgement

-- the last node is a policy
abbrev pub judge_last : Sheet → List NodeType → NodeType → Judgement
judge_last sheet types Unused = faulty (WrongTypeAt (sheet.count - 1))
judge_last sheet types Formula = faulty (WrongTypeAt (sheet.count - 1))
judge_last sheet types (Policy m k) = sound m sheet types

abbrev pub judge_typed : Sheet → Typings → Judgement
judge_typed sheet (mistyped f types) = faulty f
judge_typed sheet (typed types) = judge_last sheet types (type_at types (sheet.count - 1))

-- Checks 6 and 7 of a sheet: node by node for its used nodes, and then the last node's 6. (The set is of the used nodes: `used-exactly`, crate
-- reached. The last one is used, and has a type.)
abbrev pub judge_sheet : Sheet → Judgement
judge_sheet sheet = judge_typed sheet (type_nodes (used_set sheet) sheet.nodes sheet.count)

-- A node is used, and has its type from those of its parts; or it is not used, and has none.
pub data TypedAs (sheet : Sheet) (types : List NodeType) (n : ℕ) : Type 0 where
  used : Used sheet n → type_node (node_of sheet n) (type_at types) ≡ Ok (type_at types n) → TypedAs sheet types n
  spare : (Used sheet n → ⊥) → type_at types n ≡ Unused → TypedAs sheet types n

-- A sheet whose checks 2 and 5 to 7 pass, in plain statements: its nodes are formed, each used one has its type from those of its parts, and the
-- last one is a policy of the mode. `judged-sound` (proofs/Sound.antt): a formed sheet that is judged sound is one.
pub record SoundSheet (mode : Mode) (sheet : Sheet) (types : List NodeType) : Type 0 where
  pub formed : Formed sheet
  pub types-each : (n : ℕ) → n < sheet.count → TypedAs sheet types n
  pub bound : Bound
  pub last : type_at types (sheet.count - 1) ≡ Policy mode bound

-- The type of a used node says what its meaning is: a formula, or a policy of that type.
abbrev pub Agrees : NodeType → Meaning → Type 0
Agrees Unused x = ⊥
Agrees Formula (formula f) = Unit {0}
Agrees Formula (policy p) = ⊥
Agrees (Policy m k) (formula f) = ⊥
Agrees (Policy m k) (policy p) = policy_type p ≡ Typed m k
