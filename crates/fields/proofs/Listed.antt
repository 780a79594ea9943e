-- Texts that are listed with a mark after each are the fields, and after them comes an empty one.
-- Assumes nothing.
use mathlib.Core.Path.{◌≡◌, refl, ap, ◌∙◌}
use mathlib.Core.Bool.{Bool, true, false, not, ◌&&◌}
use mathlib.Core.List.{List, [], ◌∷◌, ◌++◌}
use Prim.Native.Nat.{ℕ, zero, suc}
use native.Mathlib.Omega.{arith}
use borrow.Author.Tests.{eq-eqb}
use lib.Dec.{eqb}
use lib.ListN.{get_or}
use Rattle.fields.specs.Fields.{split_by, each_marked, unmarked, all_unmarked}

both_true : (a b : Bool) → a && b ≡ true → (a ≡ true) × (b ≡ true)
both_true true true e = (refl, refl)
both_true true false e = absurd (let z : ◌≡◌ {A = ℕ} 0 1 = cc in omega arith)
both_true false b e = absurd (let z : ◌≡◌ {A = ℕ} 0 1 = cc in omega arith)

not-true : (a : Bool) → not a ≡ true → a ≡ false
not-true true e = absurd (let z : ◌≡◌ {A = ℕ} 0 1 = cc in omega arith)
not-true false e = refl

field-then : (mark : ℕ) (text rest : List ℕ) → unmarked mark text ≡ true → split_by mark (text ++ (mark ∷ rest)) ≡ text ∷ split_by mark rest
unfolding split_by
field-then mark [] rest u = rw (eq-eqb mark mark refl)
field-then mark (byte ∷ text) rest u = rw (not-true (eqb byte mark) (both_true (not (eqb byte mark)) (unmarked mark text) u).0, field-then mark text rest (both_true (not (eqb byte mark)) (unmarked mark text) u).1)

fields-listed : (mark : ℕ) (texts : List (List ℕ)) → all_unmarked mark texts ≡ true → split_by mark (each_marked mark texts) ≡ texts ++ ([] ∷ [])
unfolding split_by
fields-listed mark [] u = refl
fields-listed mark (text ∷ texts) u =
    field-then mark text (each_marked mark texts) (both_true (unmarked mark text) (all_unmarked mark texts) u).0
    ∙ ap (λ (l : List (List ℕ)). text ∷ l) (fields-listed mark texts (both_true (unmarked mark text) (all_unmarked mark texts) u).1)

one_more : (texts : List (List ℕ)) (number : ℕ) → get_or (texts ++ ([] ∷ [])) number [] ≡ get_or texts number []
one_more [] zero = refl
one_more [] (suc number) = refl
one_more (text ∷ texts) zero = refl
one_more (text ∷ texts) (suc number) = one_more texts number

pub listed_at : (mark : ℕ) (texts : List (List ℕ)) (number : ℕ) → all_unmarked mark texts ≡ true → get_or (split_by mark (each_marked mark texts)) number [] ≡ get_or texts number []
listed_at mark texts number u = rw (fields-listed mark texts u) (one_more texts number)
