-- A rule under an action, by the entry in its row.
-- Assumes nothing.
use Rattle.std.specs.Prelude.{◌≡◌, Bool, List, ℕ}
use Rattle.view.specs.Moves.{entry_at, denies, moved, fulfils}
use Rattle.places.specs.declared.Case.{Case}
use Rattle.places.specs.declared.Case.TheVariants.{Empty, Enforced, Watched, Fulfilled}

-- The entry of an action in a rule's row, which moves it; an empty place and a fulfilled rule need none.
abbrev pub Follows : List ℕ → ℕ → Case → ℕ → Type 0
Follows table action Empty entry = Unit {0}
Follows table action (Enforced row) entry = entry ≡ entry_at table row action
Follows table action (Watched row) entry = entry ≡ entry_at table row action
Follows table action Fulfilled entry = Unit {0}

-- A rule under an action: its next case, and whether it trips as an enforced or as a watched rule.
pub record RuleMoves (table : List ℕ) (action : ℕ) (case next : Case) (denying fulfilling : Bool) : Type 0 where
  pub goes : next ≡ moved table action case
  pub denied : denying ≡ denies table action case
  pub reported : fulfilling ≡ fulfils table action case

-- The same by the entry in its row, whatever the table.
pub record MovesBy (case : Case) (entry : ℕ) (next : Case) (denying fulfilling : Bool) : Type 0 where
  pub moves : (table : List ℕ) (action : ℕ) → Follows table action case entry → RuleMoves table action case next denying fulfilling
