-- What an action does to the rule on a place: whether the rule denies it, where the rule moves, and whether the action fulfils it.
-- Assumes nothing.
use Rattle.std.specs.Prelude.{◌≡◌, Bool, false, cond, List, ℕ, ◌+◌, ◌*◌, ◌<◌, eqb, get_or}
use Rattle.table.specs.Table.{actions_of, entries_of}
use Rattle.places.specs.declared.Case.{Case}
use Rattle.places.specs.declared.Case.TheVariants.{Empty, Enforced, Watched, Fulfilled}
use Rattle.view.specs.View.{View}

-- The case that a table starts in, by its type.
abbrev pub first_case : ℕ → Case
first_case type = cond (eqb type 1) (Enforced 0) (Watched 0)

-- An action's entry in a row of a table.
abbrev pub entry_at : List ℕ → ℕ → ℕ → ℕ
entry_at table row action = get_or (entries_of table) (row * actions_of table + action) 255

-- An enforced rule whose entry is a trip denies.
abbrev pub denies : List ℕ → ℕ → Case → Bool
denies table action Empty = false
denies table action (Enforced row) = eqb (entry_at table row action) 255
denies table action (Watched row) = false
denies table action Fulfilled = false

abbrev pub watched_move : ℕ → Case
watched_move e = cond (eqb e 255) Fulfilled (Watched e)

-- A permitted action moves each rule to its next row; a watched rule that trips is fulfilled and stays so.
abbrev pub moved : List ℕ → ℕ → Case → Case
moved table action Empty = Empty
moved table action (Enforced row) = Enforced (entry_at table row action)
moved table action (Watched row) = watched_move (entry_at table row action)
moved table action Fulfilled = Fulfilled

-- A watched rule that trips at this action is fulfilled by it.
abbrev pub fulfils : List ℕ → ℕ → Case → Bool
fulfils table action Empty = false
fulfils table action (Enforced row) = false
fulfils table action (Watched row) = eqb (entry_at table row action) 255
fulfils table action Fulfilled = false

-- The same of the places of a view.
abbrev pub denies_at : View → ℕ → ℕ → Bool
denies_at view action i = denies (view.table i) action (view.case i)

abbrev pub moved_at : View → ℕ → ℕ → Case
moved_at view action i = moved (view.table i) action (view.case i)

abbrev pub fulfils_at : View → ℕ → ℕ → Bool
fulfils_at view action i = fulfils (view.table i) action (view.case i)

abbrev pub NoneDenies : View → ℕ → ℕ → Type 0
NoneDenies view action n = (i : ℕ) → i < n → denies_at view action i ≡ false
