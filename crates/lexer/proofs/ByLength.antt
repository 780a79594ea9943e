-- Which of the language's words a word can be, by its length.
-- Assumes nothing.
use mathlib.Core.Path.{◌≡◌, refl, sym, ap, ◌∙◌}
use mathlib.Core.Bool.{Bool, true, false, cond, and-false}
use mathlib.Core.List.{List, [], ◌∷◌}
use Prim.Native.Nat.{ℕ, suc}
use lib.Dec.{eqb}
use lib.ListN.{length}
use borrow.Author.Tests.{eq-eqb}
use Rattle.base.proofs.Truths.{not-true}
use Rattle.grammar.specs.Words.{Word}
use Rattle.grammar.specs.Spelling.{same, whether, Keyword, token_in}
use Rattle.grammar.specs.declared.Token.{Token}

-- Words of other lengths are others.
pub lengths_differ : (v w : Word) → (length v ≡ length w → ⊥) → same v w ≡ false
lengths_differ [] [] n = absurd (n refl)
lengths_differ [] (b ∷ w) n = refl
lengths_differ (a ∷ v) [] n = refl
lengths_differ (a ∷ v) (b ∷ w) n = rw (lengths_differ v w (λ e. n (ap suc e)), and-false)

-- The words of one length in a table.
abbrev kept_if : Bool → Keyword → List Keyword → List Keyword
kept_if b k rest = cond b (k ∷ rest) rest

abbrev pub of_length : ℕ → List Keyword → List Keyword
of_length n [] = []
of_length n (k ∷ rest) = kept_if (eqb n (length k.letters)) k (of_length n rest)

-- Only the words of its length can be a word.
pub by_length : (table : List Keyword) (w : Word) (others : Token) → token_in table w others ≡ token_in (of_length (length w) table) w others
unfolding whether
by_length [] w others = refl
by_length (k ∷ rest) w others = by (eqb (length w) (length k.letters)) refl (by_length rest w others)
  where
    by : (b : Bool) → eqb (length w) (length k.letters) ≡ b → token_in rest w others ≡ token_in (of_length (length w) rest) w others
        → token_in (k ∷ rest) w others ≡ token_in (kept_if b k (of_length (length w) rest)) w others
    by true e more = ap (whether (same w k.letters) k.token) more
    by false e more = rw (lengths_differ w k.letters (λ q. not-true (sym e ∙ eq-eqb (length w) (length k.letters) q))) more
