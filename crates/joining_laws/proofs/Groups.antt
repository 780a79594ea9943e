-- Groups, and groups of groups: trees of joins with the same leaves give the same table, which is the conjunction of the leaves.
-- Assumes nothing.
use mathlib.Core.Path.{◌≡◌, refl, sym, ◌∙◌, ap, ap₂, subst}
use mathlib.Core.Bool.{Bool, true, false, ◌||◌}
use mathlib.Core.List.Memᴰ
use mathlib.Core.List.{List, [], ◌∷◌, ◌++◌, append-nil}
use mathlib.Core.Logic.{◌↔◌, ⊎_elim}
use Prim.Native.Nat.{ℕ, zero, suc, ◌≤◌, ◌<◌}
use native.Mathlib.Omega.{arith}
use Rattle.trace.specs.Trace.{Sequence, trips}
use Rattle.trace.proofs.Laws.{not-both}
use Rattle.limits.specs.declared.Limits.{Limits}
use Rattle.table.specs.Table.{actions_of, row_step, Accepted, verdict}
use Rattle.table.specs.Answer.{accepted}
use Rattle.table.proofs.Verdicts.{equal-exactly-when-same-verdicts}
use Rattle.joining.specs.Tables.{table_at, tables_in, listed, Fit}
use Rattle.joining.specs.Meaning.{some_trips}
use Rattle.joining.specs.Joins.{Joins}
use Rattle.joining_laws.specs.Conjunction.{JoinedTable}
use Rattle.joining_laws.specs.Sets.{AmongTables, SameTables}
use Rattle.joining_laws.specs.Boards.{StandsFor}
use Rattle.joining_laws.specs.Groups.{Forest, none, leaf, node, Tree}
use Rattle.joining_laws.proofs.SomeTrips.{same_truth, or-none, some-append, some-trips-member, member-trips, Tripping}
use Rattle.joining_laws.proofs.Enforced.{denies-exactly}
use Rattle.joining_laws.proofs.JoinedTable.{joined-table}
use Rattle.joining_laws.proofs.JoinedBoard.{stands-for}

-- every table of a list is fit and has so many actions
record Over (tables : List (List ℕ)) (actions : ℕ) : Type 0 where
  fit : (table : List ℕ) → AmongTables table tables → Fit table
  acting : (table : List ℕ) → AmongTables table tables → actions_of table ≡ actions

over_none : {actions : ℕ} → Over [] actions
over_none = record { fit = λ t m. absurd (Memᴰ.not-nil m); acting = λ t m. absurd (Memᴰ.not-nil m) }

over-more : {table : List ℕ} {tables : List (List ℕ)} {actions : ℕ} → Fit table → actions_of table ≡ actions → Over tables actions → Over (table ∷ tables) actions
over-more {table} {tables} {actions} f e o =
    record {
      fit = λ t m. ⊎_elim (λ q. subst Fit (sym q) f) (o.fit t) (Memᴰ.cases_cons m);
      acting = λ t m. ⊎_elim (λ q. ap actions_of q ∙ e) (o.acting t) (Memᴰ.cases_cons m);
    }

over-both : {tables others : List (List ℕ)} {actions : ℕ} → Over tables actions → Over others actions → Over (tables ++ others) actions
over-both {tables} o p =
    record {
      fit = λ t m. ⊎_elim (o.fit t) (p.fit t) (Memᴰ.append_cases tables m);
      acting = λ t m. ⊎_elim (o.acting t) (p.acting t) (Memᴰ.append_cases tables m);
    }

-- leaves, and the tables that their trees give, of which each has so many actions
record Stand (leaves tables : List (List ℕ)) (actions : ℕ) : Type 0 where
  above : Over tables actions
  below : Over leaves actions
  some : leaves ≡ [] → tables ≡ []
  reads : (w : List ℕ) → Sequence actions w → some_trips tables w ≡ some_trips leaves w

nil-left : (xs ys : List (List ℕ)) → xs ++ ys ≡ [] → xs ≡ []
nil-left [] ys e = refl
nil-left (x ∷ xs) ys e = cc

module _ {n : ℕ} {leaves tables : List (List ℕ)} (rest : Stand leaves tables n) where
  with-leaf : {table : List ℕ} → Fit table → actions_of table ≡ n → Stand (table ∷ leaves) (table ∷ tables) n
  with-leaf {table} f e =
      record {
        above = over-more f e rest.above;
        below = over-more f e rest.below;
        some = λ q. let z : ◌≡◌ {A = ℕ} 0 1 = cc in absurd (omega arith);
        reads = λ w s. ap (λ (b : Bool). trips (row_step table) 0 w || b) (rest.reads w s);
      }

  with-node : {below : List (List ℕ)} {count : ℕ} {input : List ℕ} {type rows : ℕ} {written : List ℕ} → JoinedTable count input type n rows written
      → Stand below (tables_in count input) n → Stand (below ++ leaves) (written ∷ tables) n
  with-node {below} {count} {input} {written = written} t under =
      record {
        above = over-more (record { accepted = t.accepted; enforced = t.enforced }) t.actions-are rest.above;
        below = over-both under.below rest.below;
        some = λ q. absurd ((stands-for t).all.some (under.some (nil-left below leaves q)));
        reads = λ w s. ap₂ (λ (a b : Bool). a || b) (t.reads w s ∙ under.reads w s) (rest.reads w s) ∙ sym (some-append w below leaves);
      }

stand : {leaves tables : List (List ℕ)} → Forest leaves tables → (n : ℕ) → ((table : List ℕ) → AmongTables table tables → actions_of table ≡ n) → Stand leaves tables n
stand none n acts = record { above = over_none; below = over_none; some = λ e. e; reads = λ w s. refl }
stand (leaf table f rest) n acts = with-leaf (stand rest n (λ t m. acts t (Memᴰ.tail m))) f (acts table (Memᴰ.head refl))
stand (node {below} {leaves} {tables} count input limits type actions rows written small j under rest) n acts =
    with-node (stand rest n (λ t m. acts t (Memᴰ.tail m)))
    (subst (λ (k : ℕ). JoinedTable count input type k rows written) one (joined-table small j))
    (stand under n (λ t m. (stands-for (joined-table small j)).all.acting t m ∙ one))
  where
    one : actions ≡ n
    one = sym (joined-table small j).actions-are ∙ acts written (Memᴰ.head refl)

module _ {leaves : List (List ℕ)} {table : List ℕ} (t : Tree leaves table) where
  own : Stand leaves (table ∷ []) (actions_of table)
  own = stand t (actions_of table) (λ x m. ap actions_of (Memᴰ.eq_of_singleton m))

  -- What a tree gives is an accepted table.
  pub tree-accepted : Accepted table
  tree-accepted = (own.above.fit table (Memᴰ.head refl)).accepted

  -- It is enforced, as its leaves are, has their number of actions, and trips where at least one of them does.
  pub tree-stands : StandsFor table leaves (actions_of table)
  tree-stands =
      record {
        all = record { some = λ e. let z = own.some e in absurd (let y : ◌≡◌ {A = ℕ} 0 1 = cc in omega arith); enforced = λ x m. (own.below.fit x m).enforced; acting = own.below.acting };
        enforced = (own.above.fit table (Memᴰ.head refl)).enforced;
        acting = refl;
        reads = λ w s. sym (or-none (trips (row_step table) 0 w)) ∙ own.reads w s;
      }

  module _ (w : List ℕ) (q : Sequence (actions_of table) w) where
    denying : (verdict table w ≡ false) ↔ (trips (row_step table) 0 w ≡ true)
    denying = denies-exactly table w tree-stands.enforced

    leaf-denies : {one : List ℕ} → AmongTables one leaves → (verdict one w ≡ false) ↔ (trips (row_step one) 0 w ≡ true)
    leaf-denies {one} m = denies-exactly one w (tree-stands.all.enforced one m)

    -- It denies exactly where at least one of the leaves denies.
    pub tree-denies : (verdict table w ≡ false) ↔ ((one : List ℕ) × AmongTables one leaves × (verdict one w ≡ false))
    tree-denies = (
      λ e. there ((some-trips-member w leaves).0 (sym (tree-stands.reads w q) ∙ denying.0 e)),
      λ p. denying.1 (tree-stands.reads w q ∙ member-trips w p.1 ((leaf-denies p.1).0 p.2)),
    )
      where
        there : Tripping w leaves → (one : List ℕ) × AmongTables one leaves × (verdict one w ≡ false)
        there f = (f.table, f.member, (leaf-denies f.member).1 f.trips-it)

    -- It is satisfied exactly where all of the leaves are.
    pub tree-verdict : (verdict table w ≡ true) ↔ ((one : List ℕ) → AmongTables one leaves → verdict one w ≡ true)
    tree-verdict =
        (λ e one m. holds (verdict one w) (λ d. not-both (sym e ∙ tree-denies.1 (one, m, d))), λ all. holds (verdict table w) (λ d. none-denies all (tree-denies.0 d)))
      where
        holds : (b : Bool) → (b ≡ false → ⊥) → b ≡ true
        holds true f = refl
        holds false f = absurd (f refl)

        none-denies : ((one : List ℕ) → AmongTables one leaves → verdict one w ≡ true) → (one : List ℕ) × AmongTables one leaves × (verdict one w ≡ false) → ⊥
        none-denies all (one, m, d) = not-both (sym (all one m) ∙ d)

-- Trees with the same leaves, in whatever groups and order, however often a leaf stands there, and under whatever limits, give the same bytes.
pub join-groups : {leaves others : List (List ℕ)} {t u : List ℕ} → Tree leaves t → Tree others u → SameTables leaves others → t ≡ u
join-groups {leaves} {others} {t} {u} a b s =
    (equal-exactly-when-same-verdicts t u (tree-accepted a) (tree-accepted b) one_number).1 (record { same = same })
  where
    first : (xs : List (List ℕ)) → (xs ≡ [] → ⊥) → (x : List ℕ) × AmongTables x xs
    first [] n = absurd (n refl)
    first (x ∷ xs) n = (x, Memᴰ.head refl)

    one_number : actions_of t ≡ actions_of u
    one_number =
        let (x, m) = first leaves (tree-stands a).all.some in sym ((tree-stands a).all.acting x m) ∙ (tree-stands b).all.acting x (s.in-other x m)

    same : (w : List ℕ) → Sequence (actions_of t) w → verdict t w ≡ verdict u w
    same w q =
        same_truth (verdict t w) (verdict u w) (λ e. (tree-verdict b w q').1 (λ x m. (tree-verdict a w q).0 e x (s.in_one x m)))
        (λ e. (tree-verdict a w q).1 (λ x m. (tree-verdict b w q').0 e x (s.in-other x m)))
      where
        q' : Sequence (actions_of u) w
        q' = subst (λ (n : ℕ). Sequence n w) one_number q

leaves_of : (n : ℕ) (f : ℕ → List ℕ) → ((i : ℕ) → i < n → Fit (f i)) → Forest (listed n f) (listed n f)
leaves_of zero f fit = none
leaves_of (suc n) f fit = leaf (f 0) (fit 0 (omega arith)) (leaves_of n (λ i. f (suc i)) (λ i h. fit (suc i) (omega arith)))

-- A join by itself is a tree, whose leaves are its tables.
pub join-tree : {count : ℕ} {input : List ℕ} {limits : Limits} {type actions rows : ℕ} {written : List ℕ} → limits.rows ≤ 64
    → Joins count input limits (accepted type actions rows) written → Tree (tables_in count input) written
join-tree {count} {input} {limits} {type} {actions} {rows} {written} small j =
    subst (λ (leaves : List (List ℕ)). Tree leaves written) (append-nil (tables_in count input))
    (node count input limits type actions rows written small j (leaves_of count (table_at input) (joined-table small j).joinable.tables.fit) none)
