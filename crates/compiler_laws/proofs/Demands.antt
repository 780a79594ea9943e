-- Demands 2 and 3 for sheets. A sheet is compiled exactly when it is well formed, well typed and inside the limits. Two sheets with one action
-- list get one table exactly when the same sequences satisfy their policies, and no table with a compiled one's verdicts has fewer rows.
-- Assumes nothing.
use mathlib.Core.Path.{◌≡◌, sym, ◌∙◌, subst}
use mathlib.Core.List.{List}
use mathlib.Core.Logic.{◌↔◌}
use Prim.Native.Nat.{ℕ, ◌-◌, ◌≤◌, ◌<◌}
use native.Mathlib.Omega.{arith}
use Rattle.trace.specs.Trace.{Sequence}
use Rattle.automaton.proofs.MinimalRows.{few-rows-suffice}
use Rattle.policy.specs.Policy.{satisfies}
use Rattle.table.specs.Table.{actions_of, rows_of, WellFormed, verdict, SameVerdicts}
use Rattle.table.specs.Answer.{Answer, accepted, refused, mode_number}
use Rattle.table.proofs.Verdicts.{equal-exactly-when-same-verdicts, accepted-has-fewest-rows}
use Rattle.syntax.specs.Nodes.{propositions_of}
use Rattle.syntax.specs.Meaning.{sheet_policy}
use Rattle.typing.specs.Typed.{sound, SoundSheet}
use Rattle.syntax.specs.declared.Sheet.{Sheet}
use Rattle.syntax.specs.declared.NodeType.{NodeType}
use Rattle.trace.specs.declared.Mode.{Mode}
use Rattle.limits.specs.declared.Limits.{Limits}
use Rattle.sheet_judge.specs.Judge.{judge}
use Rattle.node_rules.specs.Nodes.{Tables}
use Rattle.compiler.specs.Limits.{OverValues, Built}
use Rattle.making.specs.Making.{IsTable, table_bytes}
use Rattle.compiler.specs.Compiles.{PolicyNode, BuiltBefore, StopsAt, values, rows, Builds, stops, builds, Compiles, faulted, passes}
use Rattle.compiler.proofs.BuiltNodes.{policy-node}
use Rattle.compiler.proofs.Passed.{passed}
use Rattle.compiler_laws.specs.Demands.{ReadAs, GetsTable, InsideLimits, NoneOver, NoRefusal, OneActionList, SameSatisfied}
use Rattle.compiler_laws.proofs.Outcome.{over-values-same, tables_agree, not-faulty, compiles-determined}
use Rattle.compiler_laws.proofs.CompiledTable.{TableOf, compiled-table, compiled-as}

module _ (bytes : List ℕ) (limits : Limits) where
  gets-built : {mode : Mode} {sheet : Sheet} {types : List NodeType} {type actions rows : ℕ} {written : List ℕ} → judge bytes ≡ sound mode sheet types
      → Builds mode sheet types limits (accepted type actions rows) written → InsideLimits bytes limits
  gets-built {mode} {sheet} {types} j (builds tables built last) =
      record { sheet = sheet; read = record { mode = mode; types = types; judged = j }; tables = tables; built = built }

  gets-inside : {type actions rows : ℕ} {written : List ℕ} → Compiles bytes limits (accepted type actions rows) written → InsideLimits bytes limits
  gets-inside (passes mode sheet types j answer written b) = gets-built j b

  inside-gets : InsideLimits bytes limits → GetsTable bytes limits
  inside-gets inside = from (passed bytes inside.read.judged)
    where
      from : SoundSheet inside.read.mode inside.sheet inside.read.types → GetsTable bytes limits
      from right =
          let below : inside.sheet.count - 1 < inside.sheet.count = omega (arith, right.formed.some-node) in
          of (inside.built (inside.sheet.count - 1) below (policy-node right (inside.sheet.count - 1) below right.last))
        where
          of : Built inside.sheet inside.tables limits (inside.sheet.count - 1) → GetsTable bytes limits
          of b =
              record {
                type = mode_number inside.read.mode;
                actions = inside.sheet.actions;
                rows = b.rows;
                written = table_bytes (mode_number inside.read.mode) inside.sheet.actions b.rows (inside.tables (inside.sheet.count - 1));
                compiles =
                    passes inside.read.mode inside.sheet inside.read.types inside.read.judged _ _ (builds inside.tables inside.built b);
              }

  -- A sheet is compiled exactly when it is well formed, well typed and inside the stated limits.
  pub compiles-exactly : GetsTable bytes limits ↔ InsideLimits bytes limits
  compiles-exactly = (λ g. gets-inside g.compiles, inside-gets)

  -- whatever the answer: it is a table exactly then
  table-inside : (x : Answer) {t : List ℕ} → Compiles bytes limits x t → IsTable x → InsideLimits bytes limits
  table-inside (refused number spot) c i = absurd i
  table-inside (accepted type actions count) c i = gets-inside c

  inside-table : {x : Answer} {t : List ℕ} → Compiles bytes limits x t → InsideLimits bytes limits → IsTable x
  inside-table c inside =
      let g = inside-gets inside in subst IsTable (compiles-determined bytes limits g.compiles c).0 tt

  pub table-exactly-inside : {x : Answer} {t : List ℕ} → Compiles bytes limits x t → IsTable x ↔ InsideLimits bytes limits
  table-exactly-inside c = (table-inside _ c, inside-table c)

  -- no node of a compiled sheet is over a limit, whoever built the nodes before it
  inside-none : (inside : InsideLimits bytes limits) → NoneOver inside.sheet inside.read.types limits
  inside-none inside = record { few-values = over-values; few-rows = λ tables n h built p over. few-rows-suffice (inside.built n h p).fits limits.rows (inside.built n h p).few-rows over }
    where
      right : SoundSheet inside.read.mode inside.sheet inside.read.types
      right = passed bytes inside.read.judged

      over-values : (tables : Tables) (n : ℕ) → n < inside.sheet.count → BuiltBefore inside.sheet inside.read.types tables limits n
          → PolicyNode inside.sheet inside.read.types n → OverValues inside.sheet tables n limits.values → ⊥
      over-values tables n h built p over =
          (inside.built n h p).few-values
          (over-values-same right n h p tables inside.tables
          (tables_agree right limits tables inside.tables n inside.sheet.count (omega arith) built inside.built)
          limits.values over)

  table-unrefused : (x : Answer) {t : List ℕ} → Compiles bytes limits x t → IsTable x → NoRefusal bytes limits
  table-unrefused (refused number spot) c i = absurd i
  table-unrefused (accepted type actions count) c i =
      let inside = gets-inside c in
      record { sheet = inside.sheet; read = inside.read; none = inside-none inside }

  -- a sheet that no refusal applies to
  module _ (u : NoRefusal bytes limits) where
    pub none_over : {mode : Mode} {sheet : Sheet} {types : List NodeType} → judge bytes ≡ sound mode sheet types → NoneOver sheet types limits
    none_over {mode} {sheet} {types} j =
        subst (λ (s : Sheet). NoneOver s types limits) same-sheet
        (subst (λ (l : List NodeType). NoneOver u.sheet l limits) same-types u.none)
      where
        same-sheet : u.sheet ≡ sheet
        same-sheet = cc u.read.judged

        same-types : u.read.types ≡ types
        same-types = cc u.read.judged

    stops-none : {sheet : Sheet} {types : List NodeType} {tables : Tables} {n number : ℕ} → NoneOver sheet types limits → n < sheet.count
        → BuiltBefore sheet types tables limits n → PolicyNode sheet types n → StopsAt sheet tables limits n number → ⊥
    stops-none {tables = tables} {n} none h built p (values over) = none.few-values tables n h built p over
    stops-none {tables = tables} {n} none h built p (rows few over) = none.few-rows tables n h built p over

    built-table : {mode : Mode} {sheet : Sheet} {types : List NodeType} {x : Answer} {t : List ℕ} → judge bytes ≡ sound mode sheet types
        → Builds mode sheet types limits x t → IsTable x
    built-table j (stops tables n number h built p over) = absurd (stops-none (none_over j) h built p over)
    built-table j (builds tables built last) = tt

    unrefused-table : {x : Answer} {t : List ℕ} → Compiles bytes limits x t → IsTable x
    unrefused-table (faulted f e) = not-faulty bytes u.read.judged f e
    unrefused-table (passes mode sheet types j x t b) = built-table j b

  -- Whatever the answer to a sheet: it is a table exactly when none of the refusals 1 to 9 applies.
  pub table-exactly-unless-refused : {x : Answer} {t : List ℕ} → Compiles bytes limits x t → IsTable x ↔ NoRefusal bytes limits
  table-exactly-unless-refused c = (table-unrefused _ c, λ u. unrefused-table u c)

-- two tables and the policies whose verdicts they give
module _ (one other : Sheet) (count : one.actions ≡ other.actions) {type actions rows type' actions' rows' : ℕ} (t u : List ℕ)
    (a : TableOf one type actions rows t) (b : TableOf other type' actions' rows' u) where
  own : actions_of t ≡ one.actions
  own = a.actions-are ∙ a.listed

  both : actions_of t ≡ actions_of u
  both = own ∙ count ∙ sym b.listed ∙ sym b.actions-are

  satisfied : SameVerdicts (actions_of t) t u → SameSatisfied one other
  satisfied v = record { same = at }
    where
      at : (w : List ℕ) → Sequence one.actions w → satisfies (propositions_of one) (sheet_policy one) w ≡ satisfies (propositions_of other) (sheet_policy other) w
      at w s = sym (a.verdicts w s) ∙ v.same w (subst (λ (n : ℕ). Sequence n w) (sym own) s) ∙ b.verdicts w (subst (λ (n : ℕ). Sequence n w) count s)

  verdicts : SameSatisfied one other → SameVerdicts (actions_of t) t u
  verdicts v = record { same = λ w s. by w (subst (λ (n : ℕ). Sequence n w) own s) }
    where
      by : (w : List ℕ) → Sequence one.actions w → verdict t w ≡ verdict u w
      by w s = a.verdicts w s ∙ v.same w s ∙ sym (b.verdicts w (subst (λ (n : ℕ). Sequence n w) count s))

  pub equal-exactly : (t ≡ u) ↔ SameSatisfied one other
  equal-exactly = (λ e. satisfied (exactly.0 e), λ v. exactly.1 (verdicts v))
    where
      exactly : (t ≡ u) ↔ SameVerdicts (actions_of t) t u
      exactly = equal-exactly-when-same-verdicts t u a.accepted b.accepted both

-- Any two sheets that compile, each under limits of its own, with one action list, get the same table, byte for byte, exactly when the same finite
-- sequences of its actions satisfy the one's policy and the other's.
pub same-table-exactly : (limits limits' : Limits) → limits.rows ≤ 64 → limits'.rows ≤ 64 → (bytes bytes' : List ℕ) {sheet other : Sheet} → ReadAs bytes sheet
    → ReadAs bytes' other → OneActionList sheet other → {type actions rows type' actions' rows' : ℕ} {t u : List ℕ}
    → Compiles bytes limits (accepted type actions rows) t → Compiles bytes' limits' (accepted type' actions' rows') u → (t ≡ u) ↔ SameSatisfied sheet other
same-table-exactly limits limits' small small' bytes bytes' {sheet} {other} r r' list {t = t} {u = u} c d =
    equal-exactly sheet other list.count t u (compiled-table bytes limits small r c) (compiled-table bytes' limits' small' r' d)

module _ (limits : Limits) (small : limits.rows ≤ 64) where
  -- Every table with as many actions that gives a compiled one's verdicts has at least as many rows, whether accepted itself or not.
  pub compiled-has-fewest-rows : (bytes : List ℕ) {type actions rows : ℕ} {t : List ℕ} → Compiles bytes limits (accepted type actions rows) t
      → (u : List ℕ) → WellFormed u → actions_of u ≡ actions → SameVerdicts actions t u → rows ≤ rows_of u
  compiled-has-fewest-rows bytes {actions = actions} {rows} {t} c u formed acts v = by (compiled-as bytes limits small c).table
    where
      by : {sheet : Sheet} {type : ℕ} → TableOf sheet type actions rows t → rows ≤ rows_of u
      by a =
          subst (λ (r : ℕ). r ≤ rows_of u) a.rows_are
          (accepted-has-fewest-rows t u a.accepted formed (a.actions-are ∙ sym acts) (subst (λ (n : ℕ). SameVerdicts n t u) (sym a.actions-are) v))
