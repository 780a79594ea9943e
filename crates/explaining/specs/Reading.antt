-- Reading a list of actions through rows: where it first trips.
-- Assumes nothing.
use Rattle.std.specs.Prelude.{◌≡◌, true, false, List, [], ℕ, Option, Some, None, suc, ◌≤◌, ◌<◌, length, take}
use Rattle.base.specs.Sets.{bit}
use Rattle.trace.specs.Trace.{Sequence, Step, trips}
use Rattle.trace.specs.declared.Mode.{Mode}
use Rattle.trace.specs.declared.Mode.TheVariants.{Enforced, Watched}
use Rattle.limits.specs.Lengths.{work_length}
use Rattle.limits.specs.declared.Limits.{Limits}
use Rattle.typing.specs.Typed.{SoundSheet}
use Rattle.syntax.specs.declared.Sheet.{Sheet}
use Rattle.syntax.specs.declared.NodeType.{NodeType}
use Rattle.rules.specs.Rules.{part_at, Readable}
use Rattle.compiler.specs.Building.{NodesStand}
use Rattle.explaining.specs.Explains.{Explanation, refused, Finds}

-- What reading is lent: a slot that can be read, and actions alone.
pub record Walkable (work : List ℕ) (node actions : ℕ) (list : List ℕ) : Type 0 where
  pub readable : Readable work node
  pub sequence : Sequence actions list

-- The front before place k does not trip, and with the action there it does.
pub record TripsAt (step : Step ℕ) (list : List ℕ) (k : ℕ) : Type 0 where
  pub inside : k < length list
  pub before : trips step 0 (take k list) ≡ false
  pub at : trips step 0 (take (suc k) list) ≡ true

-- Where a list first trips, if it does.
abbrev pub FirstTrip : Step ℕ → List ℕ → Option ℕ → Type 0
FirstTrip step list None = trips step 0 list ≡ false
FirstTrip step list (Some k) = TripsAt step list k

-- What naming is lent: the slots of the set's nodes below the last can be read.
pub record Namable (work : List ℕ) (set last actions : ℕ) (list : List ℕ) : Type 0 where
  pub listed : last < 64
  pub readable : (n : ℕ) → n < last → bit set n ≡ true → Readable work n
  pub sequence : Sequence actions list

-- The lowest node of the set below the last whose rows the list trips, or the last where there is none.
pub record LowestTrips (work : List ℕ) (set last actions : ℕ) (list : List ℕ) (node : ℕ) : Type 0 where
  pub within : node ≤ last
  pub chosen : node < last → (bit set node ≡ true) × (trips (part_at actions work node) 0 list ≡ true)
  pub passed : (n : ℕ) → n < node → bit set n ≡ true → trips (part_at actions work n) 0 list ≡ false

-- What is answered of a sheet by its mode: 34, or what is found.
abbrev pub FindsBy : Mode → (sheet : Sheet) (list : List ℕ) → Explanation → List ℕ → Type 0
FindsBy Watched sheet list answer written = (answer ≡ refused 34 0) × (written ≡ [])
FindsBy Enforced sheet list answer written = Finds sheet list answer written

-- The nodes of a sheet stand in the work area.
pub record Standing (mode : Mode) (sheet : Sheet) (work : List ℕ) : Type 0 where
  pub types : List NodeType
  pub right : SoundSheet mode sheet types
  pub limits : Limits
  pub rows : ℕ
  pub nodes : NodesStand sheet types limits rows work
  pub room : work_length ≤ length work
