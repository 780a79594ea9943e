-- What the loader's answer says of a table, as the checks of putting it on ask it.
-- Assumes nothing.
use mathlib.Core.Path.{◌≡◌, refl}
use mathlib.Core.List.{List}
use Prim.Native.Nat.{ℕ, ◌≤◌}
use lib.ListN.{length}
use Rattle.table.specs.Table.{type_of, actions_of, WellFormed, Canonical, Accepted}
use Rattle.table.specs.Answer.{accepted, refused, Loads, accepts, malformed, not-canonical}
use Rattle.places.specs.Layout.{place_length}
use Rattle.places.proofs.AreaLaws.{fits-place}

-- What the loader answers of an accepted table: its type and its number of actions, and that it fits a place.
pub loaded-type : {table : List ℕ} {type actions rows : ℕ} → Loads table (accepted type actions rows) → type ≡ type_of table
loaded-type (accepts a) = refl

pub loaded-actions : {table : List ℕ} {type actions rows : ℕ} → Loads table (accepted type actions rows) → actions ≡ actions_of table
loaded-actions (accepts a) = refl

pub loaded-accepted : {table : List ℕ} {type actions rows : ℕ} → Loads table (accepted type actions rows) → Accepted table
loaded-accepted (accepts a) = a

pub loaded-fits : (table : List ℕ) {type actions rows : ℕ} → Loads table (accepted type actions rows) → length table ≤ place_length
loaded-fits table l = fits-place table (loaded-accepted l).formed

pub load-malformed : {table : List ℕ} → Loads table (refused 10 0) → WellFormed table → ⊥
load-malformed (malformed n) = n

pub load-misnumbered : {table : List ℕ} → Loads table (refused 11 0) → WellFormed table × (Canonical table → ⊥)
load-misnumbered (not-canonical f n) = (f, n)
