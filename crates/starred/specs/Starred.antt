-- The starred cases of docs/FORMATS.md, "A small roastery", as one list of sheets and tables.
-- Assumes nothing.
use Rattle.std.specs.Prelude.{List, [], ◌∷◌, ℕ, length}
use Rattle.trace.specs.declared.Mode.{Mode}
use Rattle.trace.specs.declared.Mode.TheVariants.{Watched, Enforced}
use Rattle.table.specs.Answer.{mode_number}
use Rattle.syntax.specs.declared.Node.{Node}
use Rattle.syntax.specs.declared.Node.TheVariants.{True, False, Proposition, Negation, Now, Holds, Count, Not, Eventually, Always, BeforePlus, AfterPlus, Fulfilling, Ignoring}
use Rattle.sheet_writer.specs.Sheets.{listed_sheet}
use Rattle.starred.specs.Written.{table_of}
use Rattle.starred.specs.Right.{Case}

-- Actions 0 charge, 1 drop, 2 tray, 3 log, each with the one proposition of its number; and the same with an action 4 that is both charge
-- and tray.
abbrev pub four : List ℕ
four = 1 ∷ 2 ∷ 4 ∷ 8 ∷ []

abbrev pub five : List ℕ
five = 1 ∷ 2 ∷ 4 ∷ 8 ∷ 5 ∷ []

abbrev charge : Node
charge = Proposition 0

abbrev drop : Node
drop = Proposition 1

abbrev tray : Node
tray = Proposition 2

abbrev log : Node
log = Proposition 3

-- the printed '-'
abbrev x : ℕ
x = 255

abbrev row : ℕ → ℕ → ℕ → ℕ → List ℕ
row a b c d = a ∷ b ∷ c ∷ d ∷ []

abbrev row5 : ℕ → ℕ → ℕ → ℕ → ℕ → List ℕ
row5 a b c d e = a ∷ b ∷ c ∷ d ∷ e ∷ []

-- a sheet's actions and nodes, and its table's rows
abbrev case : Mode → (actions : List ℕ) → (nodes : List Node) → (rows : List (List ℕ)) → Case
case mode actions nodes rows = record { mode = mode; sheet = listed_sheet actions nodes; table = table_of (mode_number mode) (length actions) rows }

abbrev enforced : (actions : List ℕ) → (nodes : List Node) → (rows : List (List ℕ)) → Case
enforced = case Enforced

abbrev watched : (actions : List ℕ) → (nodes : List Node) → (rows : List (List ℕ)) → Case
watched = case Watched

abbrev pub starred : List Case
starred =
    -- Always Holds not charge
    enforced four (charge ∷ Negation 0 ∷ Holds 1 ∷ Always 2 ∷ []) (row x 0 0 0 ∷ [])
    -- Eventually Now drop
    ∷ watched four (drop ∷ Now 0 ∷ Eventually 1 ∷ []) (row 0 x 0 0 ∷ [])
    -- Holds drop
    ∷ enforced four (drop ∷ Holds 0 ∷ []) (row x 1 x x ∷ row 1 1 1 1 ∷ [])
    -- Not Now not drop: the same bytes
    ∷ enforced four (drop ∷ Negation 0 ∷ Now 1 ∷ Not 2 ∷ []) (row x 1 x x ∷ row 1 1 1 1 ∷ [])
    -- Now false
    ∷ watched four (False ∷ Now 0 ∷ []) (row 0 0 0 0 ∷ [])
    -- Now true
    ∷ watched four (True ∷ Now 0 ∷ []) (row x x x x ∷ [])
    -- Count 2
    ∷ watched four (Count 2 ∷ []) (row 1 1 1 1 ∷ row x x x x ∷ [])
    -- Before+ (Eventually Now tray) (Always Holds not charge)
    ∷ enforced four (tray ∷ Now 0 ∷ Eventually 1 ∷ charge ∷ Negation 3 ∷ Holds 4 ∷ Always 5 ∷ BeforePlus 2 6 ∷ []) (row x 0 1 0 ∷ row 1 1 1 1 ∷ [])
    -- the same with an action 4 that is both charge and tray
    ∷ enforced five (tray ∷ Now 0 ∷ Eventually 1 ∷ charge ∷ Negation 3 ∷ Holds 4 ∷ Always 5 ∷ BeforePlus 2 6 ∷ []) (row5 x 0 1 0 x ∷ row5 1 1 1 1 1 ∷ [])
    -- After+ (Eventually Now drop) (Always Holds not charge)
    ∷ enforced four (drop ∷ Now 0 ∷ Eventually 1 ∷ charge ∷ Negation 3 ∷ Holds 4 ∷ Always 5 ∷ AfterPlus 2 6 ∷ []) (row 0 1 0 0 ∷ row x 1 1 1 ∷ [])
    -- Fulfilling 1 (Now log) (Holds true) (Always Holds not drop)
    ∷ enforced four (log ∷ Now 0 ∷ True ∷ Holds 2 ∷ drop ∷ Negation 4 ∷ Holds 5 ∷ Always 6 ∷ Fulfilling 1 1 3 7 ∷ []) (row 1 1 1 2 ∷ row 1 x 1 1 ∷ row 2 2 2 2 ∷ [])
    -- Fulfilling 2 (Now log) (Holds true) (Always Holds not drop)
    ∷ enforced four (log ∷ Now 0 ∷ True ∷ Holds 2 ∷ drop ∷ Negation 4 ∷ Holds 5 ∷ Always 6 ∷ Fulfilling 2 1 3 7 ∷ []) (row 1 1 1 2 ∷ row 3 3 3 3 ∷ row 2 2 2 2 ∷ row 3 x 3 3 ∷ [])
    -- Fulfilling 3 (Eventually Now log) (Holds true) (Always Holds not drop)
    ∷ enforced four (log ∷ Now 0 ∷ Eventually 1 ∷ True ∷ Holds 3 ∷ drop ∷ Negation 5 ∷ Holds 6 ∷ Always 7 ∷ Fulfilling 3 2 4 8 ∷ []) (row 1 1 1 2 ∷ row 3 3 3 2 ∷ row 2 2 2 2 ∷ row 4 4 4 2 ∷ row 4 x 4 4 ∷ [])
    -- Ignoring log (Holds drop)
    ∷ enforced four (log ∷ drop ∷ Holds 1 ∷ Ignoring 0 2 ∷ []) (row x 1 x 0 ∷ row 1 1 1 1 ∷ [])
    ∷ []
