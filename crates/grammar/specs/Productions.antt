-- The language word by word: which words may stand where something of a category is to come, and what is to come behind them.
-- Assumes nothing.
use Rattle.std.specs.Prelude.{List, [], ◌∷◌, ◌++◌, ℕ, suc, ◌≤◌}
use Rattle.grammar.specs.Words.{Word}
use Rattle.grammar.specs.Spelling.{word, number_word, proposition_word}
use Rattle.grammar.specs.declared.Category.{Category}
use Rattle.grammar.specs.declared.Category.TheVariants.{Text, Watched, Enforced, Formula, Number, End}

-- A word fits a category, and the categories of its parts.
pub data Fits : Category → Word → List Category → Type 0 where
  watch : Fits Text (word "watch") (Watched ∷ [])
  enforce : Fits Text (word "enforce") (Enforced ∷ [])
  now-w : Fits Watched (word "now") (Formula ∷ [])
  count-w : Fits Watched (word "count") (Number ∷ [])
  not-w : Fits Watched (word "not") (Enforced ∷ [])
  and-w : Fits Watched (word "and") (Watched ∷ Watched ∷ [])
  or-w : Fits Watched (word "or") (Watched ∷ Watched ∷ [])
  eventually-w : Fits Watched (word "eventually") (Watched ∷ [])
  before-w : Fits Watched (word "before") (Watched ∷ Watched ∷ [])
  after-w : Fits Watched (word "after") (Watched ∷ Watched ∷ [])
  ignoring-w : Fits Watched (word "ignoring") (Formula ∷ Watched ∷ [])
  holds-e : Fits Enforced (word "holds") (Formula ∷ [])
  not-e : Fits Enforced (word "not") (Watched ∷ [])
  and-e : Fits Enforced (word "and") (Enforced ∷ Enforced ∷ [])
  or-e : Fits Enforced (word "or") (Enforced ∷ Enforced ∷ [])
  always-e : Fits Enforced (word "always") (Enforced ∷ [])
  before-e : Fits Enforced (word "before") (Watched ∷ Enforced ∷ [])
  after-e : Fits Enforced (word "after") (Watched ∷ Enforced ∷ [])
  fulfilling-e : Fits Enforced (word "fulfilling") (Number ∷ Watched ∷ Enforced ∷ Enforced ∷ [])
  ignoring-e : Fits Enforced (word "ignoring") (Formula ∷ Enforced ∷ [])
  true-a : Fits Formula (word "true") []
  false-a : Fits Formula (word "false") []
  proposition-a : {p : ℕ} → p ≤ 15 → Fits Formula (proposition_word p) []
  not_a : Fits Formula (word "not") (Formula ∷ [])
  and-a : Fits Formula (word "and") (Formula ∷ Formula ∷ [])
  or-a : Fits Formula (word "or") (Formula ∷ Formula ∷ [])
  number : {k : ℕ} → 1 ≤ k → k ≤ 60 → Fits Number (number_word k) []

-- No part of the language begins with the word.
pub record Misfit (category : Category) (w : Word) : Type 0 where
  pub none : {parts : List Category} → Fits category w parts → ⊥

-- Something is still to come.
abbrev pub Open : Category → Type 0
Open Text = Unit {0}
Open Watched = Unit {0}
Open Enforced = Unit {0}
Open Formula = Unit {0}
Open Number = Unit {0}
Open End = ⊥

-- Reading words, of the categories that are to come one behind the other, goes well for so many words and no further: there something of the
-- last category is to come, and the next word does not fit it, or there is none.
pub data Sticks : List Category → List Word → ℕ → Category → Type 0 where
  ends : {c : Category} {rest : List Category} → Open c → Sticks (c ∷ rest) [] 0 c
  misfits : {c : Category} {rest : List Category} {w : Word} {ws : List Word} → Misfit c w → Sticks (c ∷ rest) (w ∷ ws) 0 c
  later : {c d : Category} {parts rest : List Category} {w : Word} {ws : List Word} {k : ℕ} → Fits c w parts → Sticks (parts ++ rest) ws k d
      → Sticks (c ∷ rest) (w ∷ ws) (suc k) d
