-- Joining sees its tables as a set: neither their order nor repetition changes the answer or the table.
-- Assumes nothing.
use mathlib.Core.Path.{◌≡◌, refl, sym, ◌∙◌, ap, ap₂, subst}
use mathlib.Core.Bool.{Bool, true}
use mathlib.Core.List.Memᴰ
use mathlib.Core.List.{List, [], ◌∷◌, ◌++◌}
use Prim.Native.Nat.{ℕ}
use native.Mathlib.Omega.{arith}
use Rattle.trace.specs.Trace.{Sequence, Move, go, run}
use Rattle.trace.specs.Limits.{SameRow, ManyRows}
use Rattle.trace.proofs.Laws.{sequence-append}
use Rattle.limits.specs.declared.Limits.{Limits}
use Rattle.automaton.specs.Minimal.{RowsOf}
use Rattle.table.specs.Table.{actions_of, row_step}
use Rattle.table.specs.Answer.{Answer, accepted as accepts}
use Rattle.joining.specs.Tables.{table_at, tables_in}
use Rattle.joining.specs.Meaning.{some_trips, rows_after, OverTuples, OverJoinedRows}
use Rattle.joining.specs.Joins.{Meets, many-tuples, many-rows, joins, Joins, miscounted, unfit, left_over, mixed, meets}
use Rattle.joining_laws.specs.Answers.{Joinable}
use Rattle.joining_laws.specs.Sets.{AmongTables, Among, SameTables}
use Rattle.joining_laws.proofs.SomeTrips.{same_truth, some-trips-member, member-trips, listed-member, member-listed}
use Rattle.joining_laws.proofs.Outcome.{not-unfit, one-count, some-actions, one_table, meets-determined}
use Rattle.joining_laws.proofs.Answers.{join-table-exactly}

among-trips : {tables others : List (List ℕ)} → Among tables others → (w : List ℕ) → some_trips tables w ≡ true → some_trips others w ≡ true
among-trips {tables} in-other w e = let t = (some-trips-member w tables).0 e in member-trips w (in-other t.table t.member) t.trips-it

-- Lists with the same tables trip on the same sequences.
pub same-trips : {tables others : List (List ℕ)} → SameTables tables others → (w : List ℕ) → some_trips tables w ≡ some_trips others w
same-trips {tables} {others} s w = same_truth (some_trips tables w) (some_trips others w) (among-trips s.in-other w) (among-trips s.in_one w)

module _ (u w : List ℕ) where
  -- Two sequences lead a table to one row.
  abbrev pub OneRow : List ℕ → Type 0
  OneRow table = run (row_step table) (go 0) u ≡ run (row_step table) (go 0) w

  each_row : {table : List ℕ} {tables : List (List ℕ)} → AmongTables table tables → rows_after tables u ≡ rows_after tables w → OneRow table
  each_row (Memᴰ.head {x = x} {xs} e) q =
      let first : OneRow x = cc (q) in subst OneRow (sym e) first
  each_row (Memᴰ.tail {x = x} {xs} m) q = let rest : rows_after xs u ≡ rows_after xs w = cc (q) in each_row m rest

  -- Sequences that lead each table to one row lead to one tuple of rows.
  pub all-rows : (tables : List (List ℕ)) → ((table : List ℕ) → AmongTables table tables → OneRow table) → rows_after tables u ≡ rows_after tables w
  all-rows [] h = refl
  all-rows (table ∷ tables) h =
      ap₂ (λ (m : Move ℕ) (l : List (Move ℕ)). m ∷ l) (h table (Memᴰ.head refl)) (all-rows tables (λ t m. h t (Memᴰ.tail m)))

  among-rows : {tables others : List (List ℕ)} → Among others tables → rows_after tables u ≡ rows_after tables w → rows_after others u ≡ rows_after others w
  among-rows {tables} {others} in_one q = all-rows others (λ table m. each_row (in_one table m) q)

-- Properties that hold of the same sequences need more rows than a limit together.
pub many-same : {actions limit : ℕ} {f g : List ℕ → Bool} → ((w : List ℕ) → Sequence actions w → f w ≡ g w) → ManyRows actions f limit → ManyRows actions g limit
many-same {actions} {limit} {f} {g} same m =
    record {
      pick = m.pick;
      sequence = m.sequence;
      untripped = λ c h. sym (same (m.pick c) (m.sequence c h)) ∙ m.untripped c h;
      apart = λ c d l h r. m.apart c d l h (shared (m.pick c) (m.pick d) (m.sequence c (omega arith)) (m.sequence d h) r);
    }
  where
    shared : (u v : List ℕ) → Sequence actions u → Sequence actions v → SameRow actions g u v → SameRow actions f u v
    shared u v p q r =
        record { same = λ w t. same (u ++ w) (sequence-append actions u w p t) ∙ r.same w t ∙ sym (same (v ++ w) (sequence-append actions v w q t)) }

module _ {tables others : List (List ℕ)} (s : SameTables tables others) {actions : ℕ} where
  over-tuples : {limit : ℕ} → OverTuples actions tables limit → OverTuples actions others limit
  over-tuples o =
      record {
        pick = o.pick;
        sequence = o.sequence;
        untripped = λ c h. sym (same-trips s (o.pick c)) ∙ o.untripped c h;
        apart = λ c d l h e. o.apart c d l h (among-rows (o.pick c) (o.pick d) s.in-other e);
      }

  over-rows : {limit : ℕ} → OverJoinedRows actions tables limit → OverJoinedRows actions others limit
  over-rows o = many-same (λ w p. same-trips s w) o

  rows_of : {rows : ℕ} {entries : List ℕ} → RowsOf actions (some_trips tables) rows entries → RowsOf actions (some_trips others) rows entries
  rows_of r =
      record { low = r.low; machine = r.machine; numbered = r.numbered; distinct = r.distinct; reads = λ w p. r.reads w p ∙ same-trips s w }

-- Having the same tables goes both ways.
pub turned : {tables others : List (List ℕ)} → SameTables tables others → SameTables others tables
turned s = record { in-other = s.in_one; in_one = s.in-other }

-- Lists with the same tables over one list of actions give the same answer and the same table.
pub meets-order : {tables others : List (List ℕ)} → SameTables tables others → {actions : ℕ} {limits : Limits} {x : Answer} {t : List ℕ}
    → Meets tables actions limits x t → Meets others actions limits x t
meets-order s (many-tuples o) = many-tuples (over-tuples s o)
meets-order s (many-rows f o) = many-rows (λ e. f (over-tuples (turned s) e)) (over-rows s o)
meets-order s (joins f rows entries few r) = joins (λ e. f (over-tuples (turned s) e)) rows entries few (rows_of s r)

-- Inputs with a common table have one number of actions.
pub common-actions : {count count' : ℕ} {input input' : List ℕ} {actions actions' : ℕ} → Joinable count input actions → Joinable count' input' actions'
    → (table : List ℕ) → AmongTables table (tables_in count input) → AmongTables table (tables_in count' input') → actions ≡ actions'
common-actions {count} {count'} {input} {input'} k k' table m m' =
    let a = member-listed count (table_at input) m in
    let b = member-listed count' (table_at input') m' in
    sym (k.each a.0 a.1) ∙ ap actions_of (sym a.2 ∙ b.2) ∙ k'.each b.0 b.1

same_number : {count count' : ℕ} {input input' : List ℕ} {actions actions' : ℕ} → Joinable count input actions → Joinable count' input' actions'
    → SameTables (tables_in count input) (tables_in count' input') → actions ≡ actions'
same_number {count} {input = input} k k' s =
    let m = listed-member count (table_at input) 0 (omega (arith, k.tables.counted.low)) in common-actions k k' (table_at input 0) m (s.in-other (table_at input 0) m)

module _ {limits : Limits} where
  -- what tables that can be joined give
  met : {count : ℕ} {input : List ℕ} {actions : ℕ} → Joinable count input actions → {x : Answer} {t : List ℕ} → Joins count input limits x t
      → Meets (tables_in count input) actions limits x t
  met k (miscounted n) = absurd (n k.tables.counted)
  met k (unfit c i number h b u) = not-unfit (k.tables.fit i h) u
  met k (left_over c fit o) = absurd (o k.tables.whole)
  met {actions = actions} k (mixed c fit w o) = absurd (o actions k.each)
  met {count} {input} k (meets c fit w a over x t m) =
      subst (λ (n : ℕ). Meets (tables_in count input) n limits x t) (one-count count input c over k.each) m

  module _ {count count' : ℕ} {input input' : List ℕ} (s : SameTables (tables_in count input) (tables_in count' input')) where
    -- Order and repetition do not matter: inputs that can be joined and have the same tables get the same answer and the same bytes.
    pub join-order-answer : {actions actions' : ℕ} → Joinable count input actions → Joinable count' input' actions' → {x y : Answer} {t u : List ℕ}
        → Joins count input limits x t → Joins count' input' limits y u → (x ≡ y) × (t ≡ u)
    join-order-answer {actions} k k' {y = y} {u = u} c d =
        meets-determined (some-actions count input k.tables.counted k.each k.tables.fit) (met k c)
        (meets-order (turned s) (subst (λ (n : ℕ). Meets (tables_in count' input') n limits y u) (sym (same_number k k' s)) (met k' d)))

-- Two joins that answer tables, of inputs with the same tables, write the same bytes, whatever the limits of each.
pub join-order : {limits limits' : Limits} {count count' : ℕ} {input input' : List ℕ} → SameTables (tables_in count input) (tables_in count' input')
    → {type actions rows type' actions' rows' : ℕ} {t u : List ℕ}
    → Joins count input limits (accepts type actions rows) t → Joins count' input' limits' (accepts type' actions' rows') u → t ≡ u
join-order {limits' = limits'} {count} {count'} {input} {input'} s {type' = type'} {actions'} {rows'} {u = u} c d =
    let k = ((join-table-exactly c).0 tt).joinable in
    let k' = ((join-table-exactly d).0 tt).joinable in
    one_table (some-actions count input k.tables.counted k.each k.tables.fit) (met k c)
    (meets-order (turned s) (subst (λ (n : ℕ). Meets (tables_in count' input') n limits' (accepts type' actions' rows') u) (sym (same_number k k' s)) (met k' d)))
