-- Which words fit which category, by a table: a line a token. The table is right: a word fits a category exactly if the table has its parts there.
-- Assumes nothing.
use mathlib.Core.Path.{◌≡◌, refl, sym, ◌∙◌}
use mathlib.Core.List.{List, [], ◌∷◌}
use mathlib.Core.Option.{Option, none, some}
use Rattle.grammar.specs.Words.{Word}
use Rattle.grammar.specs.Spelling.{whether, token_of}
use Rattle.grammar.specs.Productions.{Fits, watch, enforce, now-w, count-w, not-w, and-w, or-w, eventually-w, before-w, after-w, ignoring-w, holds-e, not-e, and-e, or-e, always-e, before-e, after-e, fulfilling-e, ignoring-e, true-a, false-a, proposition-a, not_a, and-a, or-a, number, Misfit}
use Rattle.grammar.specs.declared.Token.{Token}
use Rattle.grammar.specs.declared.Token.TheVariants.{Watch, Enforce, Now, Holds, Count, Not, And, Or, Eventually, Always, Before, After, Fulfilling, Ignoring, True, False, Proposition, Number as NumberToken, Other}
use Rattle.grammar.specs.declared.Category.{Category}
use Rattle.grammar.specs.declared.Category.TheVariants.{Text, Watched, Enforced, Formula, Number, End}
use Rattle.grammar.proofs.Tokens.{Spelled, token-spelled, number-token, proposition-token}

-- The parts where a text, a watched policy, an enforced one, a formula or a number is to come.
abbrev pub by_category : (text w e a k : Option (List Category)) → Category → Option (List Category)
by_category text w e a k Text = text
by_category text w e a k Watched = w
by_category text w e a k Enforced = e
by_category text w e a k Formula = a
by_category text w e a k Number = k
by_category text w e a k End = none

abbrev pub parts_of : Token → Category → Option (List Category)
parts_of Watch = by_category (some (Watched ∷ [])) none none none none
parts_of Enforce = by_category (some (Enforced ∷ [])) none none none none
parts_of Now = by_category none (some (Formula ∷ [])) none none none
parts_of Holds = by_category none none (some (Formula ∷ [])) none none
parts_of Count = by_category none (some (Number ∷ [])) none none none
parts_of Not = by_category none (some (Enforced ∷ [])) (some (Watched ∷ [])) (some (Formula ∷ [])) none
parts_of And = by_category none (some (Watched ∷ Watched ∷ [])) (some (Enforced ∷ Enforced ∷ [])) (some (Formula ∷ Formula ∷ [])) none
parts_of Or = by_category none (some (Watched ∷ Watched ∷ [])) (some (Enforced ∷ Enforced ∷ [])) (some (Formula ∷ Formula ∷ [])) none
parts_of Eventually = by_category none (some (Watched ∷ [])) none none none
parts_of Always = by_category none none (some (Enforced ∷ [])) none none
parts_of Before = by_category none (some (Watched ∷ Watched ∷ [])) (some (Watched ∷ Enforced ∷ [])) none none
parts_of After = by_category none (some (Watched ∷ Watched ∷ [])) (some (Watched ∷ Enforced ∷ [])) none none
parts_of Fulfilling = by_category none none (some (Number ∷ Watched ∷ Enforced ∷ Enforced ∷ [])) none none
parts_of Ignoring = by_category none (some (Formula ∷ Watched ∷ [])) (some (Formula ∷ Enforced ∷ [])) none none
parts_of True = by_category none none none (some []) none
parts_of False = by_category none none none (some []) none
parts_of (Proposition p) = by_category none none none (some []) none
parts_of (NumberToken k) = by_category none none none none (some [])
parts_of Other = by_category none none none none none

-- A word that fits a category has its parts in the table.
pub fits-parts : {c : Category} {w : Word} {parts : List Category} → Fits c w parts → parts_of (token_of w) c ≡ some parts
unfolding token_of whether
fits-parts watch = refl
fits-parts enforce = refl
fits-parts now-w = refl
fits-parts count-w = refl
fits-parts not-w = refl
fits-parts and-w = refl
fits-parts or-w = refl
fits-parts eventually-w = refl
fits-parts before-w = refl
fits-parts after-w = refl
fits-parts ignoring-w = refl
fits-parts holds-e = refl
fits-parts not-e = refl
fits-parts and-e = refl
fits-parts or-e = refl
fits-parts always-e = refl
fits-parts before-e = refl
fits-parts after-e = refl
fits-parts fulfilling-e = refl
fits-parts ignoring-e = refl
fits-parts true-a = refl
fits-parts false-a = refl
fits-parts (proposition-a {p} h) = rw (proposition-token p h)
fits-parts not_a = refl
fits-parts and-a = refl
fits-parts or-a = refl
fits-parts (number {k} l h) = rw (number-token k l h)

no : {X : Type 0} {parts : List Category} → none ≡ some parts → X
no e = cc

-- A word that has no parts in the table does not fit.
pub misfit : (c : Category) (w : Word) → parts_of (token_of w) c ≡ none → Misfit c w
misfit c w e = record { none = λ f. no (sym e ∙ fits-parts f) }

module _ {w : Word} {parts : List Category} where
  -- a word of this spelling fits, with these parts
  is : {v : Word} {c : Category} {parts' : List Category} → w ≡ v → Fits c v parts' → some parts' ≡ some parts → Fits c w parts
  is {parts'} s f e = let same : parts' ≡ parts = cc in rw (s, ← same) f

  -- a line of the table
  in-category : {text watched enforced a k : Option (List Category)} (c : Category)
      → (text ≡ some parts → Fits Text w parts)
      → (watched ≡ some parts → Fits Watched w parts)
      → (enforced ≡ some parts → Fits Enforced w parts)
      → (a ≡ some parts → Fits Formula w parts)
      → (k ≡ some parts → Fits Number w parts)
      → by_category text watched enforced a k c ≡ some parts → Fits c w parts
  in-category Text t x e a k = t
  in-category Watched t x e a k = x
  in-category Enforced t x e a k = e
  in-category Formula t x e a k = a
  in-category Number t x e a k = k
  in-category End t x e a k = no

  token-fits : (t : Token) → Spelled t w → (c : Category) → parts_of t c ≡ some parts → Fits c w parts
  token-fits Watch s c = in-category c (is s watch) no no no no
  token-fits Enforce s c = in-category c (is s enforce) no no no no
  token-fits Now s c = in-category c no (is s now-w) no no no
  token-fits Holds s c = in-category c no no (is s holds-e) no no
  token-fits Count s c = in-category c no (is s count-w) no no no
  token-fits Not s c = in-category c no (is s not-w) (is s not-e) (is s not_a) no
  token-fits And s c = in-category c no (is s and-w) (is s and-e) (is s and-a) no
  token-fits Or s c = in-category c no (is s or-w) (is s or-e) (is s or-a) no
  token-fits Eventually s c = in-category c no (is s eventually-w) no no no
  token-fits Always s c = in-category c no no (is s always-e) no no
  token-fits Before s c = in-category c no (is s before-w) (is s before-e) no no
  token-fits After s c = in-category c no (is s after-w) (is s after-e) no no
  token-fits Fulfilling s c = in-category c no no (is s fulfilling-e) no no
  token-fits Ignoring s c = in-category c no (is s ignoring-w) (is s ignoring-e) no no
  token-fits True s c = in-category c no no no (is s true-a) no
  token-fits False s c = in-category c no no no (is s false-a) no
  token-fits (Proposition p) s c = in-category c no no no (is s.1 (proposition-a s.0)) no
  token-fits (NumberToken k) s c = in-category c no no no no (is s.2 (number s.0 s.1))
  token-fits Other s c = in-category c no no no no no

-- A word that has parts in the table fits, with them.
pub parts-fit : (c : Category) (w : Word) {parts : List Category} → parts_of (token_of w) c ≡ some parts → Fits c w parts
parts-fit c w = token-fits (token_of w) (token-spelled w) c
