-- The call itself, with its areas: where they are too short it answers 14, else what explaining gives; the place of a denial is the first number of
-- the output, and nothing else of it is written.
-- Assumes nothing.
use mathlib.Core.Path.{◌≡◌, refl, ap}
use mathlib.Core.List.{List, ◌∷◌, ◌++◌}
use mathlib.Core.Logic.{◌↔◌}
use Prim.Native.Nat.{ℕ}
use lib.ListN.{length, drop}
use Rattle.limits.specs.declared.Limits.{Limits}
use Rattle.limits.specs.Limits.{largest}
use Rattle.making.specs.Making.{AreasFor, short, makes}
use Rattle.making.proofs.Calls.{refused-leaves}
use Rattle.syntax.specs.declared.Sheet.{Sheet}
use Rattle.explaining.specs.Explains.{Explanation, no-denial, denied, refused, Finds, no-action, none-denied, first-denied, Explains, not-compiled, watched, finds}
use Rattle.explaining.specs.Calling.{ExplainsInto}
use Rattle.explaining_laws.specs.Answers.{written_for}
use Rattle.explaining_laws.proofs.Answers.{explain-never-14}

found-written : {sheet : Sheet} {list : List ℕ} {x : Explanation} {t : List ℕ} → Finds sheet list x t → t ≡ written_for x
found-written (no-action n) = refl
found-written (none-denied s none) = refl
found-written (first-denied s place node f l) = refl

-- What is written is the place of a denial, and nothing for every other answer.
pub explain-written : {bytes list : List ℕ} {limits : Limits} {x : Explanation} {t : List ℕ} → Explains bytes list limits x t → t ≡ written_for x
explain-written (not-compiled number spot c) = refl
explain-written (watched sheet c) = refl
explain-written (finds sheet c x t f) = found-written f

module _ {bytes list out work values : List ℕ} where
  -- With areas that are long enough, the answer is one of explaining inside 1,024 values and 64 rows.
  pub explain-call-answers : AreasFor 1 out work values → {answer : Explanation} {out' work' values' : List ℕ}
      → ExplainsInto bytes list out work values answer out' work' values' → (t : List ℕ) × Explains bytes list largest answer t
  explain-call-answers areas (short h) = absurd (h areas)
  explain-call-answers areas (makes a answer t c) = (t, c)

  -- 14 is answered exactly when an area is too short.
  pub explain-14-exactly : {answer : Explanation} {out' work' values' : List ℕ} → ExplainsInto bytes list out work values answer out' work' values'
      → (answer ≡ refused 14 0) ↔ (AreasFor 1 out work values → ⊥)
  explain-14-exactly (short h) = (λ e. h, λ n. refl)
  explain-14-exactly (makes a answer t c) = (λ e. absurd (explain-never-14 c e), λ n. absurd (n a))

  -- No denial leaves the output as it was.
  pub no-denial-leaves-output : {out' work' values' : List ℕ} → ExplainsInto bytes list out work values no-denial out' work' values' → out' ≡ out
  no-denial-leaves-output = refused-leaves (Explains bytes list largest) (λ t c. explain-written c)

  -- So does a refusal.
  pub explain-refusal-leaves-output : {number spot : ℕ} {out' work' values' : List ℕ} → ExplainsInto bytes list out work values (refused number spot) out' work' values'
      → out' ≡ out
  explain-refusal-leaves-output = refused-leaves (Explains bytes list largest) (λ t c. explain-written c)

  -- The place of a denial is the first number of the output, and the others are as they were.
  pub place-in-output : {place node : ℕ} {out' work' values' : List ℕ} → ExplainsInto bytes list out work values (denied place node) out' work' values'
      → out' ≡ place ∷ drop 1 out
  place-in-output (makes a answer t c) = ap (λ (l : List ℕ). l ++ drop (length l) out) (explain-written c)
