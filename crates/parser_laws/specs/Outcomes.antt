-- What the laws of reading texts say of an answer, and of the text, the actions and the output that it was given for.
-- Assumes nothing.
use Rattle.std.specs.Prelude.{◌≡◌, List, ℕ, ◌≤◌, ◌<◌, length}
use Rattle.grammar.specs.Words.{Word}
use Rattle.grammar.specs.Language.{InLanguage}
use Rattle.grammar.specs.Nodes.{policy_nodes}
use Rattle.sheet_writer.specs.Bytes.{largest_sheet}
use Rattle.sheet_writer.specs.Sheets.{SomeActions}
use Rattle.parser_state.specs.Progress.{longest_text}
use Rattle.parser.specs.Calling.{TextAnswer, written, refused}

-- An answer is a sheet.
abbrev pub IsSheet : TextAnswer → Type 0
IsSheet (written bytes actions nodes) = Unit {0}
IsSheet (refused number spot) = ⊥

-- An answer is the refusal of this number, at whatever spot.
abbrev pub TextRefusedBy : ℕ → TextAnswer → Type 0
TextRefusedBy number (written bytes actions nodes) = ⊥
TextRefusedBy number (refused given spot) = given ≡ number

-- An answer is none of the refusals 14, 2, 31 and 33.
pub record NoneBut32 (answer : TextAnswer) : Type 0 where
  pub not-14 : TextRefusedBy 14 answer → ⊥
  pub not-2 : TextRefusedBy 2 answer → ⊥
  pub not-31 : TextRefusedBy 31 answer → ⊥
  pub not-33 : TextRefusedBy 33 answer → ⊥

-- The text may be read: none of 14, 2 and 31 applies.
pub record MayRead (text actions out : List ℕ) : Type 0 where
  pub room : largest_sheet ≤ length out
  pub some-actions : SomeActions actions
  pub short : length text ≤ longest_text

-- The words are in the language, and their reading has at most 64 nodes.
pub record FewNodes (ws : List Word) : Type 0 where
  pub within : InLanguage ws
  pub few : length (policy_nodes 0 within.rule.policy) ≤ 64

-- The words are in the language, and their reading has more than 64 nodes.
pub record ManyNodes (ws : List Word) : Type 0 where
  pub within : InLanguage ws
  pub many : 64 < length (policy_nodes 0 within.rule.policy)
