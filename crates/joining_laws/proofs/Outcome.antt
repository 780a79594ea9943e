-- Joining has one answer and one table for each input.
-- Assumes nothing.
use mathlib.Core.Path.{◌≡◌, refl, sym, ◌∙◌, ap, subst}
use mathlib.Core.List.{List}
use Prim.Native.Nat.{ℕ, ◌≤◌}
use native.Mathlib.Decide.{dec_lt}
use native.Mathlib.Omega.{arith}
use Rattle.limits.specs.declared.Limits.{Limits}
use Rattle.limits.specs.Limits.{largest}
use Rattle.automaton.proofs.MinimalRows.{rows-unique, few-rows-suffice}
use Rattle.table.specs.Answer.{Answer, accepted, refused}
use Rattle.making.proofs.Calls.{made-determined}
use Rattle.joining.specs.Tables.{table_at, tables_in, Fit, Unfit, malformed, not-canonical, watched, FitBefore, AllOver, CountFits}
use Rattle.joining.specs.Joins.{Meets, many-tuples, many-rows, joins, Joins, miscounted, unfit, left_over, mixed, meets}
use Rattle.joining.specs.Calling.{JoinsInto}

-- A fit table is not unfit.
pub not-unfit : {X : Type 0} {table : List ℕ} {number : ℕ} → Fit table → Unfit table number → X
not-unfit f (malformed n) = absurd (n f.accepted.formed)
not-unfit f (not-canonical w n) = absurd (n f.accepted.canonical)
not-unfit f (watched a t) = absurd (let e = f.enforced in omega arith)

same_number : {table : List ℕ} {m n : ℕ} → Unfit table m → Unfit table n → m ≡ n
same_number (malformed n) (malformed m) = refl
same_number (malformed n) (not-canonical w m) = absurd (n w)
same_number (malformed n) (watched a t) = absurd (n a.formed)
same_number (not-canonical w n) (malformed m) = absurd (m w)
same_number (not-canonical w n) (not-canonical v m) = refl
same_number (not-canonical w n) (watched a t) = absurd (n a.canonical)
same_number (watched a t) (malformed m) = absurd (m a.formed)
same_number (watched a t) (not-canonical w m) = absurd (m a.canonical)
same_number (watched a t) (watched b s) = refl

-- the first table that is not fit is one
first-same : (input : List ℕ) (i j : ℕ) {m n : ℕ} → FitBefore input i → Unfit (table_at input i) m → FitBefore input j → Unfit (table_at input j) n → m ≡ n
first-same input i j {m} {n} b u c v =
    elim (dec_lt i j) [
      | yes h ↦ not-unfit (c i h) u
      | no h ↦ elim (dec_lt j i) [
        | yes g ↦ not-unfit (b j g) v
        | no g ↦ same_number u (subst (λ (k : ℕ). Unfit (table_at input k) n) (let e : j ≡ i = omega arith in e) v)
      ]
    ]

module _ (count : ℕ) (input : List ℕ) (c : CountFits count) {actions : ℕ} (over : AllOver actions count input) where
  -- Tables of one number of actions have no other.
  pub one-count : {other : ℕ} → AllOver other count input → actions ≡ other
  one-count over' = sym (over 0 (omega (arith, c.low))) ∙ over' 0 (omega (arith, c.low))

  -- Fit tables have an action.
  pub some-actions : FitBefore input count → 1 ≤ actions
  some-actions fit = subst (λ (n : ℕ). 1 ≤ n) (over 0 (omega (arith, c.low))) (fit 0 (omega (arith, c.low))).accepted.formed.header.actions-low

  -- Fit tables have at most 16 actions.
  pub few-actions : FitBefore input count → actions ≤ 16
  few-actions fit = subst (λ (n : ℕ). n ≤ 16) (over 0 (omega (arith, c.low))) (fit 0 (omega (arith, c.low))).accepted.formed.header.actions-high

-- Tables over one list of actions have one table, whatever the limits.
pub one_table : {tables : List (List ℕ)} {actions : ℕ} {limits limits' : Limits} → 1 ≤ actions → {type others rows type' others' rows' : ℕ} {t u : List ℕ}
    → Meets tables actions limits (accepted type others rows) t → Meets tables actions limits' (accepted type' others' rows') u → t ≡ u
one_table some (joins f rows entries few r) (joins f' rows' entries' few' r') =
    let e : (rows ≡ rows') × (entries ≡ entries') = rows-unique some r r' in cc (e.0, e.1)

-- Tables over one list of actions have one answer and one table.
pub meets-determined : {tables : List (List ℕ)} {actions : ℕ} {limits : Limits} → 1 ≤ actions → {x y : Answer} {t u : List ℕ}
    → Meets tables actions limits x t → Meets tables actions limits y u → (x ≡ y) × (t ≡ u)
meets-determined some (many-tuples o) (many-tuples o') = (refl, refl)
meets-determined some (many-tuples o) (many-rows f o') = absurd (f o)
meets-determined some (many-tuples o) (joins f rows entries few r) = absurd (f o)
meets-determined some (many-rows f o) (many-tuples o') = absurd (f o')
meets-determined some (many-rows f o) (many-rows f' o') = (refl, refl)
meets-determined {limits = limits} some (many-rows f o) (joins f' rows entries few r) = absurd (few-rows-suffice r limits.rows few o)
meets-determined some (joins f rows entries few r) (many-tuples o) = absurd (f o)
meets-determined {limits = limits} some (joins f rows entries few r) (many-rows f' o) = absurd (few-rows-suffice r limits.rows few o)
meets-determined {actions = actions} some (joins f rows entries few r) (joins f' rows' entries' few' r') =
    let e : (rows ≡ rows') × (entries ≡ entries') = rows-unique some r r' in
    (cc e.0, cc (e.0, e.1))

module _ {count : ℕ} {input : List ℕ} {limits : Limits} where
  -- Two outcomes of joining one input are one: what joining gives is a function of the count, the bytes and the limits.
  pub joins-determined : {x y : Answer} {t u : List ℕ} → Joins count input limits x t → Joins count input limits y u → (x ≡ y) × (t ≡ u)
  joins-determined (miscounted n) (miscounted m) = (refl, refl)
  joins-determined (miscounted n) (unfit d j l h b u) = absurd (n d)
  joins-determined (miscounted n) (left_over d fit o) = absurd (n d)
  joins-determined (miscounted n) (mixed d fit w o) = absurd (n d)
  joins-determined (miscounted n) (meets d fit w a over y u m) = absurd (n d)
  joins-determined (unfit c i k g a v) (miscounted m) = absurd (m c)
  joins-determined (unfit c i k g a v) (unfit d j l h b u) = (ap (λ (n : ℕ). refused n 0) (first-same input i j a v b u), refl)
  joins-determined (unfit c i k g a v) (left_over d fit o) = not-unfit (fit i g) v
  joins-determined (unfit c i k g a v) (mixed d fit w o) = not-unfit (fit i g) v
  joins-determined (unfit c i k g a v) (meets d fit w n over y u m) = not-unfit (fit i g) v
  joins-determined (left_over c fit o) (miscounted m) = absurd (m c)
  joins-determined (left_over c fit o) (unfit d j l h b u) = not-unfit (fit j h) u
  joins-determined (left_over c fit o) (left_over d fit' o') = (refl, refl)
  joins-determined (left_over c fit o) (mixed d fit' w o') = absurd (o w)
  joins-determined (left_over c fit o) (meets d fit' w a over y u m) = absurd (o w)
  joins-determined (mixed c fit w o) (miscounted m) = absurd (m c)
  joins-determined (mixed c fit w o) (unfit d j l h b u) = not-unfit (fit j h) u
  joins-determined (mixed c fit w o) (left_over d fit' o') = absurd (o' w)
  joins-determined (mixed c fit w o) (mixed d fit' w' o') = (refl, refl)
  joins-determined (mixed c fit w o) (meets d fit' w' a over y u m) = absurd (o a over)
  joins-determined (meets c fit w a over x t m) (miscounted n) = absurd (n c)
  joins-determined (meets c fit w a over x t m) (unfit d j l h b u) = not-unfit (fit j h) u
  joins-determined (meets c fit w a over x t m) (left_over d fit' o) = absurd (o w)
  joins-determined (meets c fit w a over x t m) (mixed d fit' w' o) = absurd (o a over)
  joins-determined (meets c fit w a over x t m) (meets d fit' w' a' over' y u m') =
      meets-determined (some-actions count input c over fit) m
      (subst (λ (n : ℕ). Meets (tables_in count input) n limits y u) (sym (one-count count input c over over')) m')

-- The contract of the call determines the answer and every byte of the lent areas.
pub join-call-determined : {count : ℕ} {input out work values : List ℕ} {x y : Answer} {o p w q v r : List ℕ}
    → JoinsInto count input out work values x o w v → JoinsInto count input out work values y p q r → (x ≡ y) × (o ≡ p) × (w ≡ q) × (v ≡ r)
join-call-determined {count} {input} = made-determined (Joins count input largest) (λ x y t u c d. joins-determined c d)
