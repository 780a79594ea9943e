-- Each answer of joining is given exactly when its checks say so, in its place of the order; and the answers of the call.
-- Assumes nothing.
use mathlib.Core.Path.{◌≡◌, subst}
use mathlib.Core.Bool.{Bool, true, false}
use mathlib.Core.List.{List}
use mathlib.Core.Logic.{◌↔◌, ◌⊎◌, inl, inr}
use Prim.Native.Nat.{ℕ, ◌<◌}
use lib.Dec.{eqb}
use Rattle.limits.specs.declared.Limits.{Limits}
use Rattle.automaton.proofs.MinimalRows.{few-rows-suffice}
use Rattle.table.specs.Answer.{Answer, accepted, refused}
use Rattle.making.specs.Making.{IsTable}
use Rattle.joining.specs.Tables.{table_at, tables_in, Unfit, malformed, not-canonical, watched, FitBefore, CountFits}
use Rattle.joining.specs.Joins.{Meets, many-tuples, many-rows, joins, Joins, miscounted, unfit, left_over, mixed, meets}
use Rattle.joining_laws.specs.Answers.{FirstUnfit, LeftOver, Joinable, Mixed, ManyTuples, ManyJoinedRows, JoinInsideLimits}
use Rattle.joining_laws.proofs.Outcome.{not-unfit, one-count, joins-determined}

abbrev choose : Bool → Type 0 → Type 0 → Type 0
choose true X Y = X
choose false X Y = Y

module _ (count : ℕ) (input : List ℕ) (limits : Limits) where
  -- Why joining is refused, by the number.
  abbrev Reason : ℕ → Type 0
  Reason number =
      choose (eqb number 2) (CountFits count → ⊥)
      (choose (eqb number 10) (FirstUnfit count input 10 ⊎ LeftOver count input)
      (choose (eqb number 11) (FirstUnfit count input 11)
      (choose (eqb number 34) (FirstUnfit count input 34)
      (choose (eqb number 23) (Mixed count input)
      (choose (eqb number 8) (ManyTuples count input limits)
      (choose (eqb number 9) (ManyJoinedRows count input limits) ⊥))))))

  abbrev ReasonOf : Answer → Type 0
  ReasonOf (accepted type actions rows) = JoinInsideLimits count input limits
  ReasonOf (refused number spot) = Reason number

  module _ (c : CountFits count) (i : ℕ) (h : i < count) (b : FitBefore input i) where
    first : {number : ℕ} → Unfit (table_at input i) number → FirstUnfit count input number
    first u = record { counted = c; at = i; inside = h; before = b; unfit = u }

    unfit-reason : {number : ℕ} → Unfit (table_at input i) number → Reason number
    unfit-reason (malformed n) = inl (first (malformed n))
    unfit-reason (not-canonical w n) = first (not-canonical w n)
    unfit-reason (watched a t) = first (watched a t)

  meets-reason : {actions : ℕ} → Joinable count input actions → {x : Answer} {t : List ℕ} → Meets (tables_in count input) actions limits x t
      → ReasonOf x
  meets-reason {actions} j (many-tuples o) = record { actions = actions; joinable = j; over = o }
  meets-reason {actions} j (many-rows f o) = record { actions = actions; joinable = j; few = f; over = o }
  meets-reason {actions} j (joins f rows entries few r) = record { actions = actions; joinable = j; few-tuples = f; few-rows = few-rows-suffice r limits.rows few }

  reason : {x : Answer} {t : List ℕ} → Joins count input limits x t → ReasonOf x
  reason (miscounted n) = n
  reason (unfit c i number h b u) = unfit-reason c i h b u
  reason (left_over c fit o) = inr (record { counted = c; fit = fit; over = o })
  reason (mixed c fit w o) = record { tables = record { counted = c; fit = fit; whole = w }; none = o }
  reason (meets c fit w a over x t m) = meets-reason (record { tables = record { counted = c; fit = fit; whole = w }; each = over }) m

  inside-met : {actions : ℕ} → JoinInsideLimits count input limits → Joinable count input actions → {x : Answer} {t : List ℕ}
      → Meets (tables_in count input) actions limits x t → IsTable x
  inside-met inside j (many-tuples o) = absurd (inside.few-tuples (rw (one-count count input j.tables.counted inside.joinable.each j.each) o))
  inside-met inside j (many-rows f o) = absurd (inside.few-rows (rw (one-count count input j.tables.counted inside.joinable.each j.each) o))
  inside-met inside j (joins f rows entries few r) = tt

  inside-table : JoinInsideLimits count input limits → {x : Answer} {t : List ℕ} → Joins count input limits x t → IsTable x
  inside-table inside (miscounted n) = absurd (n inside.joinable.tables.counted)
  inside-table inside (unfit c i number h b u) = not-unfit (inside.joinable.tables.fit i h) u
  inside-table inside (left_over c fit o) = absurd (o inside.joinable.tables.whole)
  inside-table inside (mixed c fit w o) = absurd (o inside.actions inside.joinable.each)
  inside-table inside (meets c fit w a over x t m) = inside-met inside (record { tables = record { counted = c; fit = fit; whole = w }; each = over }) m

  table-inside : (x : Answer) → IsTable x → ReasonOf x → JoinInsideLimits count input limits
  table-inside (accepted type actions rows) i r = r
  table-inside (refused number spot) i r = absurd i

module _ {count : ℕ} {input : List ℕ} {limits : Limits} where
  -- and the other way: where a reason holds, the answer is given
  module _ {x : Answer} {written : List ℕ} (j : Joins count input limits x written) where
    says : (number : ℕ) → x ≡ refused number 0 → Reason count input limits number
    says number e = subst (ReasonOf count input limits) e (reason count input limits j)

    first-unfit : (number : ℕ) → FirstUnfit count input number → x ≡ refused number 0
    first-unfit number f = (joins-determined j (unfit f.counted f.at number f.inside f.before f.unfit)).0

    met : {actions : ℕ} → Joinable count input actions → {y : Answer} {t : List ℕ} → Meets (tables_in count input) actions limits y t → x ≡ y
    met {actions} k m = (joins-determined j (meets k.tables.counted k.tables.fit k.tables.whole actions k.each _ _ m)).0

    -- 2 is answered exactly when the count is outside 2 to 8.
    pub join-2-exactly : (x ≡ refused 2 0) ↔ (CountFits count → ⊥)
    join-2-exactly = (says 2, λ n. (joins-determined j (miscounted n)).0)

    -- 10 is answered exactly when the first table that is not fit is malformed, or all are fit and bytes are left over.
    pub join-10-exactly : (x ≡ refused 10 0) ↔ (FirstUnfit count input 10 ⊎ LeftOver count input)
    join-10-exactly = (says 10, back)
      where
        back : FirstUnfit count input 10 ⊎ LeftOver count input → x ≡ refused 10 0
        back (inl f) = first-unfit 10 f
        back (inr l) = (joins-determined j (left_over l.counted l.fit l.over)).0

    -- 11 is answered exactly when the first table that is not fit is well formed and not canonical.
    pub join-11-exactly : (x ≡ refused 11 0) ↔ FirstUnfit count input 11
    join-11-exactly = (says 11, first-unfit 11)

    -- 34 is answered exactly when the first table that is not fit is accepted and watched.
    pub join-34-exactly : (x ≡ refused 34 0) ↔ FirstUnfit count input 34
    join-34-exactly = (says 34, first-unfit 34)

    -- 23 is answered exactly when the input is fit tables and nothing else, and they differ in their number of actions.
    pub join-23-exactly : (x ≡ refused 23 0) ↔ Mixed count input
    join-23-exactly = (says 23, λ m. (joins-determined j (mixed m.tables.counted m.tables.fit m.tables.whole m.none)).0)

    -- 8 is answered exactly when the tables can be joined and have more tuples of rows than the limit.
    pub join-8-exactly : (x ≡ refused 8 0) ↔ ManyTuples count input limits
    join-8-exactly = (says 8, λ m. met m.joinable (many-tuples m.over))

    -- 9 is answered exactly when the tables can be joined, have no more tuples than the limit, and need more rows than the limit.
    pub join-9-exactly : (x ≡ refused 9 0) ↔ ManyJoinedRows count input limits
    join-9-exactly = (says 9, λ m. met m.joinable (many-rows m.few m.over))

    -- A table is answered exactly when the tables can be joined, inside both limits.
    pub join-table-exactly : IsTable x ↔ JoinInsideLimits count input limits
    join-table-exactly = (λ i. table-inside count input limits x i (reason count input limits j), λ inside. inside-table count input limits inside j)

    -- Joining itself never answers 14.
    pub join-never-14 : x ≡ refused 14 0 → ⊥
    join-never-14 = says 14
