-- A rule on a place: what its case after a sequence says of the verdict after one more action.
-- Assumes nothing.
use mathlib.Core.Path.{◌≡◌, refl, sym, ◌∙◌, ap, subst}
use mathlib.Core.Bool.{Bool, true, false, cond, not}
use mathlib.Core.List.{List, [], ◌∷◌, ◌++◌, append-nil}
use mathlib.Core.Logic.{◌↔◌}
use Prim.Native.Nat.{ℕ, ◌+◌, ◌*◌, ◌<◌}
use native.Mathlib.Omega.{arith}
use lib.Arith.{digits_lt}
use lib.Dec.{eqb}
use borrow.Author.Tests.{eqb-true, eqb-false}
use Rattle.trace.specs.Trace.{Sequence, Move, trip, go, Step, after, run, tripped}
use Rattle.trace.proofs.Laws.{not-both, run-trip, run-append}
use Rattle.automaton.specs.Machine.{move_by}
use Rattle.table.specs.Table.{type_of, actions_of, rows_of, row_step, WellFormed, verdict_by, verdict}
use Rattle.places.specs.Places.{taken}
use Rattle.view.specs.Possible.{CaseFits}
use Rattle.view.specs.Moves.{entry_at, denies, moved, fulfils, first_case}
use Rattle.runs.specs.Runs.{CaseAfter, at-enforced, at-watched, at-fulfilled}
use Rattle.places.specs.declared.Case.{Case}
use Rattle.places.specs.declared.Case.TheVariants.{Enforced, Watched, Fulfilled}

-- A move to a row below n, or a trip.
abbrev Below : ℕ → Move ℕ → Type 0
Below n trip = Unit {0}
Below n (go row) = row < n

move-below : (n : ℕ) (b : Bool) (e : ℕ) → (b ≡ false → e < n) → Below n (move_by b e)
move-below n true e h = tt
move-below n false e h = h refl

module _ (table : List ℕ) (formed : WellFormed table) where
  after-below : (a : ℕ) → a < actions_of table → (m : Move ℕ) → Below (rows_of table) m → Below (rows_of table) (after m (λ row. row_step table row a))
  after-below a h trip p = tt
  after-below a h (go row) p = move-below (rows_of table) (eqb (entry_at table row a) 255) (entry_at table row a) inside
    where
      inside : eqb (entry_at table row a) 255 ≡ false → entry_at table row a < rows_of table
      inside e = formed.entries (row * actions_of table + a) (digits_lt p h) (eqb-false (entry_at table row a) 255 e)

  run-below : (w : List ℕ) → Sequence (actions_of table) w → (m : Move ℕ) → Below (rows_of table) m → Below (rows_of table) (run (row_step table) m w)
  run-below [] s m p = p
  run-below (a ∷ w) s m p = run-below w s.1 (after m (λ row. row_step table row a)) (after-below a s.0 m p)

  -- a row that is met is one of the table's
  row_below : (w : List ℕ) → Sequence (actions_of table) w → (row : ℕ) → run (row_step table) (go 0) w ≡ go row → row < rows_of table
  row_below w s row e = subst (Below (rows_of table)) e (run-below w s (go 0) formed.header.rows-low)

  -- a rule's case fits its table
  pub case-fits : (w : List ℕ) → Sequence (actions_of table) w → {c : Case} → CaseAfter table w c → CaseFits table c
  case-fits w s (at-enforced row t e) = (record { formed = formed; typed = t }, row_below w s row e)
  case-fits w s (at-watched row t e) = (record { formed = formed; typed = t }, row_below w s row e)
  case-fits w s (at-fulfilled t e) = record { formed = formed; typed = t }

tripped-move : (b : Bool) (e : ℕ) → tripped (move_by b e) ≡ b
tripped-move true e = refl
tripped-move false e = refl

tripped-stays : (f : Step ℕ) (m : Move ℕ) (w : List ℕ) → tripped m ≡ true → tripped (run f m w) ≡ true
tripped-stays f trip w e = ap tripped (run-trip f w)
tripped-stays f (go row) w e = not-both (sym e)

module _ (table : List ℕ) where
  enforced-verdict : type_of table ≡ 1 → (w : List ℕ) → verdict table w ≡ not (tripped (run (row_step table) (go 0) w))
  enforced-verdict t w = ap (λ (n : ℕ). verdict_by n (tripped (run (row_step table) (go 0) w))) t

  watched-verdict : type_of table ≡ 2 → (w : List ℕ) → verdict table w ≡ tripped (run (row_step table) (go 0) w)
  watched-verdict t w = ap (λ (n : ℕ). verdict_by n (tripped (run (row_step table) (go 0) w))) t

  -- A fulfilled rule stays fulfilled.
  pub fulfilled-stays : type_of table ≡ 2 → (v w : List ℕ) → verdict table v ≡ true → verdict table (v ++ w) ≡ true
  fulfilled-stays t v w e =
      watched-verdict t (v ++ w) ∙ ap tripped (run-append (row_step table) (go 0) v w)
      ∙ tripped-stays (row_step table) (run (row_step table) (go 0) v) w (sym (watched-verdict t v) ∙ e)

  unfulfilled-before : type_of table ≡ 2 → (v w : List ℕ) → verdict table (v ++ w) ≡ false → verdict table v ≡ false
  unfulfilled-before t v w e = go-by (verdict table v) refl
    where
      go-by : (b : Bool) → verdict table v ≡ b → b ≡ false
      go-by true p = not-both (sym (fulfilled-stays t v w p) ∙ e)
      go-by false p = refl

  -- So a watched rule is satisfied by no part of a sequence from its front exactly where the whole does not satisfy it.
  pub unfulfilled-exactly : type_of table ≡ 2 → (w : List ℕ)
      → ((earlier later : List ℕ) → w ≡ earlier ++ later → verdict table earlier ≡ false) ↔ (verdict table w ≡ false)
  unfulfilled-exactly t w = (
    λ f. f w [] (sym (append-nil w)),
    λ e earlier later p. unfulfilled-before t earlier later (subst (λ (v : List ℕ). verdict table v ≡ false) p e),
  )

  -- a type is one number
  one_type : {A : Type 0} → type_of table ≡ 1 → type_of table ≡ 2 → A
  one_type s t = absurd (let z : ◌≡◌ {A = ℕ} 1 2 = sym s ∙ t in omega arith)

  module _ (w : List ℕ) (a : ℕ) where
    next-run : (m : Move ℕ) → run (row_step table) (go 0) w ≡ m → run (row_step table) (go 0) (w ++ (a ∷ [])) ≡ after m (λ row. row_step table row a)
    next-run m e = run-append (row_step table) (go 0) w (a ∷ []) ∙ ap (λ (n : Move ℕ). after n (λ row. row_step table row a)) e

    -- one more action trips exactly where its entry is the mark
    next-trips : (row : ℕ) → run (row_step table) (go 0) w ≡ go row → tripped (run (row_step table) (go 0) (w ++ (a ∷ []))) ≡ eqb (entry_at table row a) 255
    next-trips row e = ap tripped (next-run (go row) e) ∙ tripped-move (eqb (entry_at table row a) 255) (entry_at table row a)

    next-enforced : type_of table ≡ 1 → (row : ℕ) → run (row_step table) (go 0) w ≡ go row → verdict table (w ++ (a ∷ [])) ≡ not (eqb (entry_at table row a) 255)
    next-enforced t row e = enforced-verdict t (w ++ (a ∷ [])) ∙ ap not (next-trips row e)

    next-watched : type_of table ≡ 2 → (row : ℕ) → run (row_step table) (go 0) w ≡ go row → verdict table (w ++ (a ∷ [])) ≡ eqb (entry_at table row a) 255
    next-watched t row e = watched-verdict t (w ++ (a ∷ [])) ∙ next-trips row e

    -- A rule denies exactly where it is enforced and violated.
    pub denies-violated : {c : Case} → CaseAfter table w c → denies table a c ≡ true → (type_of table ≡ 1) × (verdict table (w ++ (a ∷ [])) ≡ false)
    denies-violated (at-enforced row t e) d = (t, next-enforced t row e ∙ ap not d)
    denies-violated (at-watched row t e) d = not-both (sym d)
    denies-violated (at-fulfilled t e) d = not-both (sym d)

    pub not-denied : {c : Case} → CaseAfter table w c → denies table a c ≡ false → type_of table ≡ 1 → verdict table (w ++ (a ∷ [])) ≡ true
    not-denied (at-enforced row t e) d s = next-enforced t row e ∙ ap not d
    not-denied (at-watched row t e) d s = one_type s t
    not-denied (at-fulfilled t e) d s = one_type s t

    -- An action fulfils a rule exactly where it is watched, not satisfied before and satisfied now.
    pub fulfils-now : {c : Case} → CaseAfter table w c → fulfils table a c ≡ true
        → (type_of table ≡ 2) × (verdict table w ≡ false) × (verdict table (w ++ (a ∷ [])) ≡ true)
    fulfils-now (at-enforced row t e) f = not-both (sym f)
    fulfils-now (at-watched row t e) f = (t, watched-verdict t w ∙ ap tripped e, next-watched t row e ∙ f)
    fulfils-now (at-fulfilled t e) f = not-both (sym f)

    pub now-fulfils : {c : Case} → CaseAfter table w c → type_of table ≡ 2 → verdict table w ≡ false → verdict table (w ++ (a ∷ [])) ≡ true → fulfils table a c ≡ true
    now-fulfils (at-enforced row s e) t p q = one_type s t
    now-fulfils (at-watched row s e) t p q = sym (next-watched t row e) ∙ q
    now-fulfils (at-fulfilled s e) t p q = not-both (sym (watched-verdict t w ∙ ap tripped e) ∙ p)

    -- A permitted action moves a rule to its case after it.
    pub moved-after : {c : Case} → CaseAfter table w c → denies table a c ≡ false → CaseAfter table (w ++ (a ∷ [])) (moved table a c)
    moved-after (at-enforced row t e) d = at-enforced (entry_at table row a) t (next-run (go row) e ∙ ap (λ (b : Bool). move_by b (entry_at table row a)) d)
    moved-after (at-watched row t e) d = by-mark (eqb (entry_at table row a) 255) (next-run (go row) e)
      where
        by-mark : (b : Bool) → run (row_step table) (go 0) (w ++ (a ∷ [])) ≡ move_by b (entry_at table row a)
            → CaseAfter table (w ++ (a ∷ [])) (cond b Fulfilled (Watched (entry_at table row a)))
        by-mark true r = at-fulfilled t r
        by-mark false r = at-watched (entry_at table row a) t r
    moved-after (at-fulfilled t e) d = at-fulfilled t (next-run trip e)

  -- a place with a rule is taken
  pub after-taken : {w : List ℕ} {c : Case} → CaseAfter table w c → taken c ≡ true
  after-taken (at-enforced row t e) = refl
  after-taken (at-watched row t e) = refl
  after-taken (at-fulfilled t e) = refl

  -- a table starts at row 0
  pub first-after : WellFormed table → CaseAfter table [] (first_case (type_of table))
  first-after formed = by-type (eqb (type_of table) 1) refl
    where
      by-type : (b : Bool) → eqb (type_of table) 1 ≡ b → CaseAfter table [] (cond b (Enforced 0) (Watched 0))
      by-type true e = at-enforced 0 (eqb-true (type_of table) 1 e) refl
      by-type false e = at-watched 0 (let n = eqb-false (type_of table) 1 e in omega (arith, formed.header)) refl
