-- The bytes of a sheet that the unit itself writes (docs/FORMATS.md, "The rule sheet"): the action list directly after the header, the nodes after
-- that, and nothing more. Reading them back gives the sheet (`read_back`, proofs/ReadBack.antt).
-- Assumes nothing.
use Rattle.std.specs.Prelude.{List, [], ◌∷◌, ◌++◌, ℕ, ◌+◌, ◌*◌, ◌%◌, ◌<◌, get_or}
use Rattle.base.specs.Build.{joined}
use Rattle.base.specs.Word.{word_bytes}
use Rattle.syntax.specs.Nodes.{node_at, propositions_of}
use Rattle.syntax.specs.Formed.{Formed}
use Rattle.syntax.specs.declared.Node.{Node}
use Rattle.syntax.specs.declared.Node.TheVariants.{True, False, Proposition, Negation, Conjunction, Disjunction, Now, Holds, Count, Not, And, Or, Eventually, Always, BeforeMinus, BeforePlus, AfterMinus, AfterPlus, Fulfilling, Ignoring}
use Rattle.syntax.specs.declared.Sheet.{Sheet}
use Rattle.sheet_reading.specs.ReadFrom.{NothingBehind}
pub use Rattle.sheet_writer.specs.Kinds.{FiveFields}

-- The bytes of 64 nodes; and of the largest sheet, which has a header, 16 actions and 64 nodes.
abbrev pub node_room : ℕ
node_room = 320

abbrev pub largest_sheet : ℕ
largest_sheet = 362

-- The fields of a node. Those that its kind does not use are 0.
abbrev pub fields_of : Node → FiveFields
fields_of True = (1, 0, 0, 0, 0)
fields_of False = (2, 0, 0, 0, 0)
fields_of (Proposition p) = (3, p, 0, 0, 0)
fields_of (Negation a) = (4, 0, a, 0, 0)
fields_of (Conjunction a b) = (5, 0, a, b, 0)
fields_of (Disjunction a b) = (6, 0, a, b, 0)
fields_of (Now a) = (10, 0, a, 0, 0)
fields_of (Holds a) = (11, 0, a, 0, 0)
fields_of (Count k) = (12, k, 0, 0, 0)
fields_of (Not a) = (13, 0, a, 0, 0)
fields_of (And a b) = (14, 0, a, b, 0)
fields_of (Or a b) = (15, 0, a, b, 0)
fields_of (Eventually a) = (16, 0, a, 0, 0)
fields_of (Always a) = (17, 0, a, 0, 0)
fields_of (BeforeMinus a b) = (18, 0, a, b, 0)
fields_of (BeforePlus a b) = (19, 0, a, b, 0)
fields_of (AfterMinus a b) = (20, 0, a, b, 0)
fields_of (AfterPlus a b) = (21, 0, a, b, 0)
fields_of (Fulfilling k a b c) = (22, k, a, b, c)
fields_of (Ignoring a b) = (23, 0, a, b, 0)

-- A byte for each. (Those of a formed node are below 256.)
abbrev pub five_bytes : FiveFields → List ℕ
five_bytes fields = fields.0 % 256 ∷ fields.1 % 256 ∷ fields.2 % 256 ∷ fields.3 % 256 ∷ fields.4 % 256 ∷ []

abbrev pub node_bytes : Node → List ℕ
node_bytes node = five_bytes (fields_of node)

-- The header: actions, nodes, the offsets of their lists, the total.
abbrev pub header_bytes : (actions count : ℕ) → List ℕ
header_bytes actions count =
    word_bytes actions ++ word_bytes count ++ word_bytes 10 ++ word_bytes (10 + 2 * actions) ++ word_bytes (10 + 2 * actions + 5 * count)

-- The first n entries of an action list.
abbrev pub action_bytes : List ℕ → ℕ → List ℕ
action_bytes propositions n = joined n (λ a. word_bytes (get_or propositions a 0))

-- What stands before the nodes.
abbrev pub front_bytes : (actions count : ℕ) → List ℕ → List ℕ
front_bytes actions count propositions = header_bytes actions count ++ action_bytes propositions actions

-- The first n nodes of an array; and a list of nodes, one after the other.
abbrev pub nodes_bytes : List Node → ℕ → List ℕ
nodes_bytes nodes n = joined n (λ i. node_bytes (node_at nodes i))

abbrev pub all_bytes : List Node → List ℕ
all_bytes [] = []
all_bytes (node ∷ nodes) = node_bytes node ++ all_bytes nodes

abbrev pub sheet_bytes : Sheet → List ℕ
sheet_bytes sheet =
    front_bytes sheet.actions sheet.count sheet.propositions ++ nodes_bytes sheet.nodes sheet.count

-- A sheet that is as reading gives it: formed, its propositions 16 bits each, and nothing after its last action and its last node.
pub record Writable (sheet : Sheet) : Type 0 where
  pub formed : Formed sheet
  pub narrow : (a : ℕ) → a < sheet.actions → propositions_of sheet a < 65536
  pub behind : NothingBehind sheet
