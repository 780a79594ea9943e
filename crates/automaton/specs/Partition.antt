-- Partitions of the states 0 .. states - 1 into classes, numbered by their first members, and what partition refinement answers.
-- Assumes nothing.
use Rattle.std.specs.Prelude.{◌≡◌, List, ℕ, ◌+◌, ◌*◌, ◌≤◌, ◌<◌, length, get_or, Option, Some, None}

-- The class of a state, 255 for what is no state, so that a trip has a class of its own.
abbrev pub class_of : List ℕ → ℕ → ℕ
class_of classes s = get_or classes s 255

-- The first member of a class.
abbrev pub first_of : List ℕ → ℕ → ℕ
first_of firsts c = get_or firsts c 0

-- Two states have one signature: one class, and behind every action one class.
pub record SameSignature (actions : ℕ) (next classes : List ℕ) (s t : ℕ) : Type 0 where
  pub class : class_of classes s ≡ class_of classes t
  pub behind : (a : ℕ) → a < actions → class_of classes (get_or next (s * actions + a) 0) ≡ class_of classes (get_or next (t * actions + a) 0)

-- The classes of R, an equivalence: each state is related to the first member of its class, and first members of two classes are not related.
-- Classes are numbered by first members: a class with a lower number has an earlier first member.
pub record Partition (R : ℕ → ℕ → Type 0) (states count : ℕ) (classes firsts : List ℕ) : Type 0 where
  pub below : (s : ℕ) → s < states → class_of classes s < count
  pub inside : (c : ℕ) → c < count → first_of firsts c < states
  pub own : (c : ℕ) → c < count → class_of classes (first_of firsts c) ≡ c
  pub first : (s : ℕ) → s < states → first_of firsts (class_of classes s) ≤ s
  pub ordered : (c d : ℕ) → c < d → d < count → first_of firsts c < first_of firsts d
  pub member : (s : ℕ) → s < states → R (first_of firsts (class_of classes s)) s
  pub apart : (c d : ℕ) → c < d → d < count → R (first_of firsts c) (first_of firsts d) → ⊥

-- More than `limit` states of which no two are related.
pub record Over (R : ℕ → ℕ → Type 0) (states limit : ℕ) : Type 0 where
  pub pick : ℕ → ℕ
  pub inside : (c : ℕ) → c ≤ limit → pick c < states
  pub apart : (c d : ℕ) → c < d → d ≤ limit → R (pick c) (pick d) → ⊥

-- What splitting the states by a relation answers: the number of classes, at most `limit`, or none where there are more.
abbrev pub SplitsTo : (R : ℕ → ℕ → Type 0) (states limit : ℕ) → Option ℕ → List ℕ → List ℕ → Type 0
SplitsTo R states limit (Some count) classes firsts = (count ≤ limit) × Partition R states count classes firsts
SplitsTo R states limit None classes firsts = Over R states limit

-- The lowest class whose first member has the signature of s.
pub record ClassFound (actions : ℕ) (next classes firsts : List ℕ) (count s found : ℕ) : Type 0 where
  pub within : found < count
  pub here : SameSignature actions next classes (first_of firsts found) s
  pub lowest : (c : ℕ) → c < found → SameSignature actions next classes (first_of firsts c) s → ⊥

-- What a search for it finds: none where no first member has the signature of s.
abbrev pub FindsClass : (actions : ℕ) (next classes firsts : List ℕ) (count s : ℕ) → Option ℕ → Type 0
FindsClass actions next classes firsts count s (Some found) = ClassFound actions next classes firsts count s found
FindsClass actions next classes firsts count s None = (c : ℕ) → c < count → SameSignature actions next classes (first_of firsts c) s → ⊥

-- What is lent to a search among the first members: they and s are states. Under the classes so far s has a class up to `count`, and the first
-- member of class c one up to c, so that no class below that of s has its signature.
pub record Searchable (actions count s : ℕ) (next classes firsts : List ℕ) : Type 0 where
  pub sized : length next ≡ length classes * actions
  pub room : count ≤ length firsts
  pub inside : (c : ℕ) → c < count → first_of firsts c < length classes
  pub state : s < length classes
  pub begun : class_of classes s ≤ count
  pub risen : (c : ℕ) → c < count → class_of classes (first_of firsts c) ≤ c

-- What is lent to a refinement: entries for each state, a class for each state in both lists, room for the first members.
pub record Refinable (actions limit : ℕ) (next classes other firsts : List ℕ) : Type 0 where
  pub sized : length next ≡ length classes * actions
  pub paired : length other ≡ length classes
  pub some : 0 < length classes
  pub positive : 0 < limit
  pub small : limit ≤ 64
  pub room : limit ≤ length firsts

-- Classes numbered by their first members, told by the list alone (a restricted growth string): every class below a state's is that of an
-- earlier state.
pub record RestrictedGrowth (classes : List ℕ) : Type 0 where
  pub earlier : (s c : ℕ) → s < length classes → c < class_of classes s → (t : ℕ) × (t < s) × (class_of classes t ≡ c)
