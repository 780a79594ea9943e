-- The language, and the spot at which words leave it: by the language alone, not by a reader.
-- Assumes nothing.
use Rattle.std.specs.Prelude.{List, [], ◌∷◌, ◌++◌, ℕ, ◌≤◌, length, take}
use Rattle.grammar.specs.Words.{Word}
use Rattle.grammar.specs.Grammar.{TextRule, Reads}
use Rattle.grammar.specs.Productions.{Fits, Misfit}
use Rattle.grammar.specs.declared.Category.{Category}
use Rattle.grammar.specs.declared.Category.TheVariants.{Text}

-- The words are in the language: they have a reading.
pub record InLanguage (ws : List Word) : Type 0 where
  pub rule : TextRule
  pub reads : Reads Text ws rule

-- Some continuation completes the words.
pub record Completable (ws : List Word) : Type 0 where
  pub more : List Word
  pub whole : InLanguage (ws ++ more)

-- The spot of refusal 32: the number of words before the first that fits no reading, all of them where the text ends too soon. That is the length
-- of the longest prefix that some continuation completes.
pub record Spot (ws : List Word) (k : ℕ) : Type 0 where
  pub within : k ≤ length ws
  pub completable : Completable (take k ws)
  pub longest : (j : ℕ) → j ≤ length ws → Completable (take j ws) → j ≤ k

-- What could stand at the spot: exactly the words that fit the category.
pub record Expects (ws : List Word) (k : ℕ) (category : Category) : Type 0 where
  pub fits : {w : Word} {parts : List Category} → Fits category w parts → Completable (take k ws ++ (w ∷ []))
  pub no_other : {w : Word} → Misfit category w → Completable (take k ws ++ (w ∷ [])) → ⊥
