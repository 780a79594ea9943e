-- A call with an output and two work areas, such as one that makes a table: what it is lent, what it answers, and every byte that it leaves.
-- Assumes nothing.
use Rattle.std.specs.Prelude.{◌≡◌, List, ◌∷◌, ◌++◌, ℕ, ◌≤◌, length, drop, replicate}
use Rattle.limits.specs.Lengths.{work_length, numbers_length}
use Rattle.limits.specs.Limits.{InRange}
use Rattle.limits.specs.declared.Limits.{Limits}
use Rattle.table.specs.Table.{largest_table}
use Rattle.table.specs.Answer.{Answer, accepted, refused}

-- An answer is a table.
abbrev pub IsTable : Answer → Type 0
IsTable (accepted type actions rows) = Unit {0}
IsTable (refused number spot) = ⊥

-- The bytes of a table.
abbrev pub table_bytes : (type actions rows : ℕ) → List ℕ → List ℕ
table_bytes type actions rows entries = type ∷ 0 ∷ actions ∷ 0 ∷ rows ∷ 0 ∷ 8 ∷ 0 ∷ entries

-- The lent areas are long enough: an output of at least so much, and the bytes and the numbers to work in.
pub record Lengths (least out work values : ℕ) : Type 0 where
  pub output : least ≤ out
  pub bytes : work_length ≤ work
  pub numbers : numbers_length ≤ values

abbrev pub AreasFor : (least : ℕ) (out work values : List ℕ) → Type 0
AreasFor least out work values = Lengths least (length out) (length work) (length values)

-- Room for any table.
abbrev pub Areas : (out work values : List ℕ) → Type 0
Areas = AreasFor largest_table

-- A public call with an output and two work areas: `too_short` where an area is too short, and nothing is changed; else what it gives, an answer with
-- what is written, [] for a refusal. This stands at the front of the output, and both work areas are zero over their lengths.
pub data AnswersInto {X : Type 0} (least : ℕ) (too_short : X) (Gives : X → List ℕ → Type 0) (out work values : List ℕ) : X → List ℕ → List ℕ → List ℕ → Type 0 where
  short : (AreasFor least out work values → ⊥) → AnswersInto least too_short Gives out work values too_short out work values
  makes : AreasFor least out work values → (answer : X) (written : List ℕ) → Gives answer written
      → AnswersInto least too_short Gives out work values answer (written ++ drop (length written) out) (replicate work_length 0 ++ drop work_length work)
      (replicate numbers_length 0 ++ drop numbers_length values)

-- A public call that makes a table: 14 where an area is too short; else a table's bytes are written.
abbrev pub MakesInto : (Answer → List ℕ → Type 0) → (out work values : List ℕ) → Answer → List ℕ → List ℕ → List ℕ → Type 0
MakesInto = AnswersInto largest_table (refused 14 0)

-- What building with any limits is lent: limits in their ranges, and work areas that are long enough.
pub record Workable (limits : Limits) (work values : List ℕ) : Type 0 where
  pub range : InRange limits
  pub bytes : work_length ≤ length work
  pub numbers : numbers_length ≤ length values

-- What making a table with any limits is lent: the same, and room for the table.
pub record Lent (limits : Limits) (out work values : List ℕ) : Type 0 where
  pub to-work : Workable limits work values
  pub output : largest_table ≤ length out

-- What it gives: the answer, and what is written at the front of the output.
pub record WritesTo {X : Type 0} (Gives : X → List ℕ → Type 0) (answer : X) (before behind : List ℕ) : Type 0 where
  pub written : List ℕ
  pub gives : Gives answer written
  pub front : behind ≡ written ++ drop (length written) before

-- A work area zeroed over its length.
abbrev pub Zeroed : List ℕ → List ℕ → Type 0
Zeroed before behind = behind ≡ replicate (length before) 0
