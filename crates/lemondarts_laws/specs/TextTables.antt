-- A table that C makes of a rule text: it reads the text, and compiles the sheet that this leaves.
-- Assumes nothing.
use Rattle.std.specs.Prelude.{◌≡◌, List, [], ◌∷◌, ℕ, ◌+◌, ◌*◌, take}
use Rattle.runs.specs.Events.{Event, put, effect_at}
use Rattle.parser_laws.specs.Boards.{FromText}
use Rattle.base.specs.Fields.{field_in}

-- The table in an output, as long as the number says that compiling returned.
abbrev pub table_in : ℕ → List ℕ → List ℕ
table_in returned out = take (8 + field_in 3 returned * field_in 2 returned) out

-- A table that comes from this text, with these actions.
pub record TableFrom (text actions table : List ℕ) : Type 0 where
  pub from : FromText table
  pub same_text : from.text ≡ text
  pub same-actions : from.actions ≡ actions

-- Each table that the events put on comes from a text.
abbrev pub PutTexts : List Event → Type 0
PutTexts [] = Unit {0}
PutTexts (e ∷ events) = ((i : ℕ) (table : List ℕ) → effect_at e i ≡ put table → FromText table) × PutTexts events
