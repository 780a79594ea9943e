-- Two sheets with the same used nodes in the same order, apart from their numbering; and judgements of them that correspond.
-- Assumes nothing.
use Rattle.syntax.specs.declared.NodeType.{NodeType}
use Rattle.std.specs.Prelude.{◌≡◌, List, ℕ, ◌<◌}
use Rattle.trace.specs.declared.Mode.{Mode}
use Rattle.syntax.specs.Faults.{number_of, spot_of}
use Rattle.syntax.specs.Nodes.{node_of}
use Rattle.syntax.specs.Shape.{shape_of, with_parts}
use Rattle.syntax.specs.Types.{type_at}
use Rattle.syntax.specs.declared.Fault.{Fault}
use Rattle.syntax.specs.declared.Sheet.{Sheet}
use Rattle.reached.specs.Parts.{Used}
use Rattle.typing.specs.Typed.{Judgement, faulty, sound}

-- The same used nodes in the same order, apart from their numbering: `to` is the number in the other sheet of each used node. Of the numbers of
-- unused nodes it says nothing. Kinds and arguments stay, and parts are renumbered (`nodes`).
pub record SameUsed (sheet other : Sheet) : Type 0 where
  pub to : ℕ → ℕ
  pub used : (n : ℕ) → Used sheet n → Used other (to n)
  pub onto : (m : ℕ) → Used other m → (n : ℕ) × Used sheet n × (to n ≡ m)
  pub order : (n m : ℕ) → Used sheet n → Used sheet m → n < m → to n < to m
  pub nodes : (n : ℕ) → Used sheet n → shape_of (node_of other (to n)) ≡ with_parts to (shape_of (node_of sheet n))

-- Judgements that correspond: one refusal number at one node, or one mode with the same types of the used nodes.
pub data SameJudgement {sheet other : Sheet} (same : SameUsed sheet other) : Judgement → Judgement → Type 0 where
  both-faulty : (f g : Fault) → number_of g ≡ number_of f → spot_of g ≡ same.to (spot_of f) → SameJudgement same (faulty f) (faulty g)
  both-sound : (mode : Mode) (types types' : List NodeType) → ((n : ℕ) → Used sheet n → type_at types n ≡ type_at types' (same.to n))
      → SameJudgement same (sound mode sheet types) (sound mode other types')
