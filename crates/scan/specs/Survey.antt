-- What check 25 finds at a place and over all places.
-- Assumes nothing.
use Rattle.std.specs.Prelude.{◌≡◌, Bool, true, false, List, ℕ, ◌<◌, eqb, Option, Some, None}
use Rattle.table.specs.Table.{rows_of, actions_of}
use Rattle.places.specs.Places.{taken}
use Rattle.view.specs.View.{View}
use Rattle.view.specs.Possible.{TableOfType, CaseFits, Possible}
use Rattle.view.specs.Moves.{entry_at}
use Rattle.view.specs.Steps.{SameActions, Occupied}
use Rattle.place_steps.specs.Moving.{Follows}
use Rattle.places.specs.declared.Case.{Case}
use Rattle.scan.specs.declared.survey.RuleRead.{RuleRead}

-- A rule of a type at a row can be.
pub record HoldsAt (table : List ℕ) (type row : ℕ) : Type 0 where
  pub holds : TableOfType table type
  pub within : row < rows_of table

-- It can be, and is over so many actions; the entry is that of an action of its list.
pub record RuleFits (table : List ℕ) (type row action : ℕ) (read : RuleRead) : Type 0 where
  pub here : HoldsAt table type row
  pub acting : actions_of table ≡ read.actions
  pub enters : action < read.actions → read.entry ≡ entry_at table row action

-- A rule read for an action: it fits, or it cannot be.
abbrev pub ReadsRule : List ℕ → (type row action : ℕ) → Option RuleRead → Type 0
ReadsRule table type row action (Some read) = RuleFits table type row action read
ReadsRule table type row action None = HoldsAt table type row → ⊥

-- A taken place whose table fits its case, and the table's count of actions; the entry is that of an action of its list.
pub record FitsWith (table : List ℕ) (case : Case) (action : ℕ) (read : RuleRead) : Type 0 where
  pub fits : CaseFits table case
  pub on : taken case ≡ true
  pub acting : actions_of table ≡ read.actions
  pub follows : action < read.actions → Follows table action case read.entry

-- A place read for an action: it fits, or it is empty or cannot be.
abbrev pub ReadsPlace : List ℕ → Case → ℕ → Option RuleRead → Type 0
ReadsPlace table case action (Some read) = FitsWith table case action read
ReadsPlace table case action None = taken case ≡ true → CaseFits table case → ⊥

-- A board that can be, with a rule on, and every rule over so many actions.
pub record OverActions (places : ℕ) (view : View) (actions : ℕ) : Type 0 where
  pub possible : Possible places view
  pub same : SameActions places view actions
  pub some : Occupied places view

-- No rule is on.
abbrev pub Vacant : ℕ → View → Type 0
Vacant places view = (i : ℕ) → i < places → taken (view.case i) ≡ false

-- All places of a board that can be: over how many actions its rules are, none where no rule is on.
abbrev pub Surveys : ℕ → View → Option ℕ → Type 0
Surveys places view None = Possible places view × Vacant places view
Surveys places view (Some actions) = OverActions places view actions

-- Whether a rule over so many actions can join those on the board.
abbrev pub admitted : Option ℕ → ℕ → Bool
admitted None actions = true
admitted (Some known) actions = eqb known actions
