-- What holds between the passes of a refinement, and what it begins with.
-- Assumes nothing.
use Rattle.std.specs.Prelude.{◌≡◌, List, ℕ, ◌≤◌, ◌<◌, length, Option, Some, None}
use Rattle.automaton.specs.Machine.{Machine, AlikeStates}
use Rattle.automaton.specs.Partition.{class_of, Over, RestrictedGrowth}

-- `count` classes, each of some state.
pub record Classified (states count : ℕ) (classes : List ℕ) : Type 0 where
  pub pick : ℕ → ℕ
  pub below : (s : ℕ) → s < states → class_of classes s < count
  pub inside : (c : ℕ) → c < count → pick c < states
  pub own : (c : ℕ) → c < count → class_of classes (pick c) ≡ c

-- Classes coarser than alikeness: alike states have one class.
pub record Coarser (mark states actions : ℕ) (next classes : List ℕ) : Type 0 where
  pub same : (s t : ℕ) → s < states → t < states → AlikeStates mark actions next s t → class_of classes s ≡ class_of classes t

-- At most `limit` classes, each of some state, numbered by their first members, and coarser than alikeness, whatever the mark is.
pub record Refining (states actions limit count : ℕ) (next classes : List ℕ) : Type 0 where
  pub few : count ≤ limit
  pub paired : length classes ≡ states
  pub classified : Classified states count classes
  pub growth : RestrictedGrowth classes
  pub sound : (mark : ℕ) → Machine mark states actions next → Coarser mark states actions next classes

-- What a refinement begins with: such classes, or that there are too many.
abbrev pub BeginsWith : (states actions limit : ℕ) (next : List ℕ) → Option ℕ → List ℕ → Type 0
BeginsWith states actions limit next (Some count) classes = Refining states actions limit count next classes
BeginsWith states actions limit next None classes = (mark : ℕ) → Machine mark states actions next → Over (AlikeStates mark actions next) states limit
