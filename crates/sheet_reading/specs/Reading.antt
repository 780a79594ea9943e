-- Reading a sheet: each node by check 4, its kind, and check 5, its parts, argument and unused fields; and the action list.
-- Assumes nothing.
use Rattle.syntax.specs.Faults.{Judged}
use Rattle.std.specs.Prelude.{Result, Ok, Err, ◌≡◌, Bool, true, false, cond, ◌&&◌, List, ℕ, zero, suc, ◌<◌, ltb, eqb, set}
use Rattle.syntax.specs.Nodes.{no_nodes, no_propositions}
use Rattle.syntax.specs.declared.Fault.{Fault}
use Rattle.syntax.specs.declared.Fault.TheVariants.{UnknownKindAt, WrongFieldAt}
use Rattle.syntax.specs.declared.Node.{Node}
use Rattle.syntax.specs.declared.Node.TheVariants.{True, False, Proposition, Negation, Conjunction, Disjunction, Now, Holds, Count, Not, And, Or, Eventually, Always, BeforeMinus, BeforePlus, AfterMinus, AfterPlus, Fulfilling, Ignoring}
use Rattle.sheet_layout.specs.Layout.{in_range, entry_of, field}
use Rattle.sheet_reading.specs.declared.NodeError.{NodeError}
use Rattle.sheet_reading.specs.declared.NodeError.TheVariants.{UnknownKind, WrongField}
use Rattle.sheet_reading.specs.declared.NodesRead.{NodesRead}

-- What is read of a node: the node, or that check 4 or 5 fails.
abbrev pub NodeRead : Type 0
NodeRead = Result Node NodeError

-- The fault of a node that cannot be read.
abbrev pub read_fault : NodeError → ℕ → Fault
read_fault UnknownKind n = UnknownKindAt n
read_fault WrongField n = WrongFieldAt n

-- check 5 passes, or not
abbrev pub given : Bool → Node → NodeRead
given true node = Ok node
given false node = Err WrongField

-- Parts are node numbers lower than the node's own, n. Fields that a kind does not use are 0.
abbrev pub no_part : (argument a b c : ℕ) → Node → NodeRead
no_part argument a b c node = given (eqb argument 0 && (eqb a 0 && (eqb b 0 && eqb c 0))) node

-- the argument alone, from low to high
abbrev pub argument_only : (low high argument a b c : ℕ) → Node → NodeRead
argument_only low high argument a b c node = given (in_range low high argument && (eqb a 0 && (eqb b 0 && eqb c 0))) node

abbrev pub one_part : (n argument a b c : ℕ) → Node → NodeRead
one_part n argument a b c node = given (eqb argument 0 && (ltb a n && (eqb b 0 && eqb c 0))) node

abbrev pub two_parts : (n argument a b c : ℕ) → Node → NodeRead
two_parts n argument a b c node = given (eqb argument 0 && (ltb a n && (ltb b n && eqb c 0))) node

abbrev pub three_parts : (n argument a b c : ℕ) → Node → NodeRead
three_parts n argument a b c node = given (in_range 1 60 argument && (ltb a n && (ltb b n && ltb c n))) node

-- Check 4: kinds 1 to 6 are action formulas, 10 to 23 policies.
abbrev pub read_fields : (n kind argument a b c : ℕ) → NodeRead
read_fields n kind argument a b c =
    cond (eqb kind 1) (no_part argument a b c True)
    (cond (eqb kind 2) (no_part argument a b c False)
    (cond (eqb kind 3) (argument_only 0 15 argument a b c (Proposition argument))
    (cond (eqb kind 4) (one_part n argument a b c (Negation a))
    (cond (eqb kind 5) (two_parts n argument a b c (Conjunction a b))
    (cond (eqb kind 6) (two_parts n argument a b c (Disjunction a b))
    (cond (eqb kind 10) (one_part n argument a b c (Now a))
    (cond (eqb kind 11) (one_part n argument a b c (Holds a))
    (cond (eqb kind 12) (argument_only 1 60 argument a b c (Count argument))
    (cond (eqb kind 13) (one_part n argument a b c (Not a))
    (cond (eqb kind 14) (two_parts n argument a b c (And a b))
    (cond (eqb kind 15) (two_parts n argument a b c (Or a b))
    (cond (eqb kind 16) (one_part n argument a b c (Eventually a))
    (cond (eqb kind 17) (one_part n argument a b c (Always a))
    (cond (eqb kind 18) (two_parts n argument a b c (BeforeMinus a b))
    (cond (eqb kind 19) (two_parts n argument a b c (BeforePlus a b))
    (cond (eqb kind 20) (two_parts n argument a b c (AfterMinus a b))
    (cond (eqb kind 21) (two_parts n argument a b c (AfterPlus a b))
    (cond (eqb kind 22) (three_parts n argument a b c (Fulfilling argument a b c))
    (cond (eqb kind 23) (two_parts n argument a b c (Ignoring a b))
    (Err UnknownKind))))))))))))))))))))

-- The fault of node n, where it cannot be read.
abbrev pub judged_at : NodeRead → ℕ → Judged
judged_at (Ok node) n = Ok tt
judged_at (Err error) n = Err (read_fault error n)

-- Node n of a sheet.
abbrev pub node_read : List ℕ → ℕ → NodeRead
node_read bytes n = read_fields n (field bytes n 0) (field bytes n 1) (field bytes n 2) (field bytes n 3) (field bytes n 4)

-- Every node before n passes 4 and 5.
abbrev pub RightBefore : List ℕ → ℕ → Type 0
RightBefore bytes n = (i : ℕ) → i < n → (node : Node) × (node_read bytes i ≡ Ok node)

-- The first nodes of a sheet: all of them, or those before the first that fails check 4 or 5, with its fault. Behind them nothing is listed.
abbrev pub all_read : List Node → NodesRead
all_read nodes = record { judged = Ok tt; nodes = nodes }

abbrev pub stopped_at : List Node → Fault → NodesRead
stopped_at nodes fault = record { judged = Err fault; nodes = nodes }

abbrev pub read_next : ℕ → List Node → NodeRead → NodesRead
read_next n nodes (Ok node) = all_read (set nodes n node)
read_next n nodes (Err error) = stopped_at nodes (read_fault error n)

abbrev pub unless_stopped : Judged → NodesRead → (List Node → NodesRead) → NodesRead
unless_stopped (Ok passed) read next = next read.nodes
unless_stopped (Err f) read next = read

-- the first n nodes, one after the other
abbrev pub read_nodes : List ℕ → ℕ → NodesRead
read_nodes bytes zero = all_read no_nodes
read_nodes bytes (suc n) = unless_stopped (read_nodes bytes n).judged (read_nodes bytes n) (λ nodes. read_next n nodes (node_read bytes n))

-- The propositions of the first n actions, and 0 behind them.
abbrev pub read_actions : List ℕ → ℕ → List ℕ
read_actions bytes zero = no_propositions
read_actions bytes (suc a) = set (read_actions bytes a) a (entry_of bytes a)
