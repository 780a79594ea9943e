-- The work areas of the public call: filled before, zeroed behind, and unchanged past their lengths.
-- Assumes nothing.
use mathlib.Core.Path.{◌≡◌, sym, ◌∙◌, ap, subst}
use mathlib.Core.List.{List, ◌++◌}
use Prim.Native.Nat.{ℕ}
use lib.ListN.{length, take, drop, replicate}
use lib.Seq.{length-take-le}
use Rattle.limits.specs.Lengths.{work_length, numbers_length}
use Rattle.making.specs.Making.{AreasFor, AnswersInto, makes, Zeroed, WritesTo}

-- a list of one number, by its length
pub of-length : (n x : ℕ) (before behind : List ℕ) → length before ≡ n → behind ≡ replicate (length before) x → behind ≡ replicate n x
of-length n x before behind e f = f ∙ ap (λ (k : ℕ). replicate k x) e

module _ {X : Type 0} {least : ℕ} {too_short : X} (Gives : X → List ℕ → Type 0) (out work values : List ℕ) (areas : AreasFor least out work values) (answer : X) where
  pub into : (out'' work' values' : List ℕ) → WritesTo Gives answer out out'' → Zeroed (take work_length work) work' → Zeroed (take numbers_length values) values'
      → AnswersInto least too_short Gives out work values answer out'' (work' ++ drop work_length work) (values' ++ drop numbers_length values)
  into out'' work' values' t w v =
      subst (λ (o : List ℕ). AnswersInto least too_short Gives out work values answer o (work' ++ drop work_length work) (values' ++ drop numbers_length values)) (sym t.front)
      (subst (λ (z : List ℕ). AnswersInto least too_short Gives out work values answer (t.written ++ drop (length t.written) out) (z ++ drop work_length work) (values' ++ drop numbers_length values))
      (sym (of-length work_length 0 (take work_length work) work' (length-take-le work_length work areas.bytes) w))
      (subst (λ (z : List ℕ). AnswersInto least too_short Gives out work values answer (t.written ++ drop (length t.written) out) (replicate work_length 0 ++ drop work_length work) (z ++ drop numbers_length values))
      (sym (of-length numbers_length 0 (take numbers_length values) values' (length-take-le numbers_length values areas.numbers) v))
      (makes areas answer t.written t.gives)))
