-- Joins of compiled tables: the joined table's verdict is that of all policies, and a sheet that says as much by itself is compiled to the same bytes.
-- Assumes nothing.
use mathlib.Core.Path.{◌≡◌, sym, ◌∙◌, subst}
use mathlib.Core.Bool.{true}
use mathlib.Core.List.{List}
use mathlib.Core.Logic.{◌↔◌}
use Prim.Native.Nat.{ℕ, ◌≤◌, ◌<◌}
use Rattle.trace.specs.Trace.{Sequence}
use Rattle.limits.specs.declared.Limits.{Limits}
use Rattle.table.specs.Table.{actions_of, verdict}
use Rattle.table.specs.Answer.{accepted}
use Rattle.compiler_laws.proofs.CompiledTable.{compiled-accepted, compiled-table}
use Rattle.board_policies.specs.Policies.{CompiledFrom, satisfies_sheet}
use Rattle.joining.specs.Tables.{table_at}
use Rattle.joining.specs.Joins.{Joins}
use Rattle.joining_laws.specs.Conjunction.{SatisfiedWhere}
use Rattle.joining_laws.specs.Policies.{FromSheets, AllPolicies, SaysAll}
use Rattle.joining_laws.proofs.JoinedTable.{joined-table, joined-verdict, joined-equals-exactly}

-- a compiled table's verdict is its policy's
compiled-says : (table : List ℕ) (from : CompiledFrom table) (actions : ℕ) → actions_of table ≡ actions → (w : List ℕ) → Sequence actions w
    → verdict table w ≡ satisfies_sheet from.sheet w
compiled-says table from actions acts w s =
    let t = compiled-table from.bytes from.limits from.few from.read from.compiles in
    t.verdicts w (subst (λ (n : ℕ). Sequence n w) (sym acts ∙ t.actions-are ∙ t.listed) s)

module _ {limits : Limits} (small : limits.rows ≤ 64) {count : ℕ} {input : List ℕ} {type actions rows : ℕ} {written : List ℕ}
    (j : Joins count input limits (accepted type actions rows) written) (sheets : FromSheets count input) where
  each : (w : List ℕ) → Sequence actions w → (i : ℕ) (h : i < count) → verdict (table_at input i) w ≡ satisfies_sheet (sheets i h).sheet w
  each w s i h = compiled-says (table_at input i) (sheets i h) actions ((joined-table small j).joinable.each i h) w s

  -- Where the tables are compiled from sheets, the joined table is satisfied exactly when the policies of all of them are.
  pub joined-policies : (w : List ℕ) → Sequence actions w → (verdict written w ≡ true) ↔ AllPolicies count input sheets w
  joined-policies w s =
      let e = joined-verdict small j w s in
      (λ v i h. sym (each w s i h) ∙ e.0 v i h, λ all. e.1 (λ i h. each w s i h ∙ all i h))

  -- A sheet over as many actions is compiled to the bytes of the joined table exactly when its policy is satisfied exactly where those of all the
  -- sheets are: so the And of the policies, where it compiles.
  pub joined-is-compiled-exactly : (table : List ℕ) (from : CompiledFrom table) → actions_of table ≡ actions → (written ≡ table) ↔ SaysAll actions from.sheet count input sheets
  joined-is-compiled-exactly table from acts = (λ e. record { same = λ w s. there e w s }, λ v. exactly.1 (record { same = λ w s. back v w s }))
    where
      exactly : (written ≡ table) ↔ SatisfiedWhere actions table count input
      exactly = joined-equals-exactly small j table (compiled-accepted from.bytes from.limits from.few from.compiles) acts

      own : (w : List ℕ) → Sequence actions w → verdict table w ≡ satisfies_sheet from.sheet w
      own w s = compiled-says table from actions acts w s

      there : written ≡ table → (w : List ℕ) → Sequence actions w → (satisfies_sheet from.sheet w ≡ true) ↔ AllPolicies count input sheets w
      there e w s =
          let g = (exactly.0 e).same w s in
          (λ v i h. sym (each w s i h) ∙ g.0 (own w s ∙ v) i h, λ all. sym (own w s) ∙ g.1 (λ i h. each w s i h ∙ all i h))

      back : SaysAll actions from.sheet count input sheets → (w : List ℕ) → Sequence actions w → (verdict table w ≡ true) ↔ ((i : ℕ) → i < count → verdict (table_at input i) w ≡ true)
      back v w s =
          let g = v.same w s in
          (λ e i h. each w s i h ∙ g.0 (sym (own w s) ∙ e) i h, λ all. own w s ∙ g.1 (λ i h. sym (each w s i h) ∙ all i h))
