-- A word that is a proposition, a number or neither; and two words compared.
-- Assumes nothing.
use Rattle.std.proofs.Common.{◌≡◌, refl, ◌∙◌, ℕ, ◌+◌, ◌-◌, ◌<◌, ◌≤◌, true, false, List, [], ◌∷◌, length, get_or, take, drop, eqb, drop-cons, add-one, arith}
use mathlib.Core.Bool.{and-false}
use Rattle.std.specs.Cmp.Lexicographic.{pointwise}
use Rattle.std.proofs.lemmas.List.{take_rest}
use borrow.Author.Tests.{ne_eqb, le-leb, lt-leb}
use Rattle.grammar.specs.Words.{Word}
use Rattle.grammar.specs.Spelling.{same, value_of, whether, token_in}
use Rattle.grammar.specs.declared.Token.{Token}
use Rattle.grammar.specs.declared.Token.TheVariants.{Proposition, Number, Other}
use Rattle.lexer.specs.Tables.{numbered, up_to_15, up_to_60}

-- The limits of the language's numbers.
pub is_up_to_15 : (v : ℕ) → v ≤ 15 → up_to_15 v ≡ Proposition v
unfolding up_to_15 whether
is_up_to_15 v h = rw (le-leb v 15 h)

pub is_above_15 : (v : ℕ) → 15 < v → up_to_15 v ≡ Other
unfolding up_to_15 whether
is_above_15 v h = rw (lt-leb v 15 h)

pub is_up_to_60 : (v : ℕ) → 1 ≤ v → v ≤ 60 → up_to_60 v ≡ Number v
unfolding up_to_60 whether
is_up_to_60 v l h = rw (le-leb 1 v l, le-leb v 60 h)

pub is_below_1 : (v : ℕ) → v < 1 → up_to_60 v ≡ Other
unfolding up_to_60 whether
is_below_1 v h = rw (lt-leb 1 v h)

pub is_above_60 : (v : ℕ) → 60 < v → up_to_60 v ≡ Other
unfolding up_to_60 whether
is_above_60 v h = rw (lt-leb v 60 h, and-false)

pub ruleset limits = (is_up_to_15, is_above_15, is_up_to_60, is_below_1, is_above_60)

-- No word that begins with p says a number.
p-value : (w : Word) → value_of (112 ∷ w) ≡ 100
p-value [] = refl
p-value (b ∷ []) = refl
p-value (b ∷ c ∷ w) =
    let n : 2 < length (112 ∷ b ∷ c ∷ w) = omega arith in
    rw (ne_eqb (length (112 ∷ b ∷ c ∷ w)) 1 (λ e. omega arith), ne_eqb (length (112 ∷ b ∷ c ∷ w)) 2 (λ e. omega arith))

pub behind-p : (w : Word) → 1 ≤ length w → get_or w 0 0 ≡ 112 → up_to_15 (value_of (take (length w - 1) (drop 1 w))) ≡ numbered w
unfolding numbered up_to_15 whether
behind-p [] l e = absurd (omega arith)
behind-p (a ∷ w) l e = rw (take_rest, e, p-value w)

pub without-p : (w : Word) → (get_or w 0 0 ≡ 112 → ⊥) → up_to_60 (value_of w) ≡ numbered w
unfolding numbered up_to_60 whether
without-p w d = rw (ne_eqb (get_or w 0 0) 112 d)

-- Two words are the same where their bytes are.
pub same_bytes : (v w : Word) → pointwise eqb v w ≡ same v w
same_bytes [] [] = refl
same_bytes [] (b ∷ w) = refl
same_bytes (a ∷ v) [] = refl
same_bytes (a ∷ v) (b ∷ w) = rw (same_bytes v w)

pub no_p : (w : Word) → length w < 1 → get_or w 0 0 ≡ 112 → ⊥
no_p [] l e = omega arith
no_p (a ∷ w) l e = omega arith
