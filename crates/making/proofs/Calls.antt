-- A call with an output and two work areas: it is determined where what it gives is, a refusal leaves the output as it was, and a table is its front.
-- Assumes nothing.
use mathlib.Core.Path.{◌≡◌, refl, ap}
use mathlib.Core.List.{List, [], ◌++◌}
use Prim.Native.Nat.{ℕ, ◌+◌, ◌*◌}
use lib.ListN.{length, take, drop}
use lib.Seq.{take_at}
use Rattle.table.specs.Answer.{Answer, accepted}
use Rattle.making.specs.Making.{AnswersInto, MakesInto, short, makes}

module _ {X : Type 0} {least : ℕ} {too_short : X} (Gives : X → List ℕ → Type 0) {out work values : List ℕ} where
  -- One answer and one content of every lent byte.
  pub made-determined : ((x y : X) (t u : List ℕ) → Gives x t → Gives y u → (x ≡ y) × (t ≡ u))
      → {x y : X} {o p w q v r : List ℕ} → AnswersInto least too_short Gives out work values x o w v → AnswersInto least too_short Gives out work values y p q r
      → (x ≡ y) × (o ≡ p) × (w ≡ q) × (v ≡ r)
  made-determined one (short h) (short g) = (refl, refl, refl, refl)
  made-determined one (short h) (makes a x t c) = absurd (h a)
  made-determined one (makes a x t c) (short h) = absurd (h a)
  made-determined one (makes a x t c) (makes b y u d) = let e = one x y t u c d in (e.0, ap (λ (l : List ℕ). l ++ drop (length l) out) e.1, refl, refl)

  -- An answer for which nothing is written leaves the output as it was.
  pub refused-leaves : {x : X} → ((t : List ℕ) → Gives x t → t ≡ []) → {o w v : List ℕ} → AnswersInto least too_short Gives out work values x o w v → o ≡ out
  refused-leaves none (short h) = refl
  refused-leaves none (makes a answer written c) = ap (λ (l : List ℕ). l ++ drop (length l) out) (none written c)

module _ (Gives : Answer → List ℕ → Type 0) {out work values : List ℕ} where
  -- A table is the front of the output, as long as its counts say.
  pub front-made : {type actions rows : ℕ} → ((t : List ℕ) → Gives (accepted type actions rows) t → length t ≡ 8 + rows * actions) → {o w v : List ℕ}
      → MakesInto Gives out work values (accepted type actions rows) o w v
      → (written : List ℕ) × Gives (accepted type actions rows) written × (take (8 + rows * actions) o ≡ written)
  front-made long (makes a answer written c) = (written, c, take_at written (drop (length written) out) _ (long written c))
