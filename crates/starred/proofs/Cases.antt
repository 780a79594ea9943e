-- One computed test of a sheet and its table, what it says where it passes, and that every starred case passes it.
-- Assumes nothing.
use Rattle.std.proofs.Common.{None}
use Rattle.syntax.specs.declared.NodeType.{NodeType}
use mathlib.Core.Path.{◌≡◌, refl, ◌∙◌, ap}
use mathlib.Core.Bool.{Bool, true, ◌&&◌}
use mathlib.Core.List.{List, [], ◌∷◌, map}
use Prim.Native.Nat.{ℕ}
use lib.Dec.{eqb}
use borrow.Author.Tests.{eqb-true}
use Rattle.base.proofs.Truths.{and-true}
use Rattle.trace.specs.Trace.{Sequence, trips}
use Rattle.automaton.specs.Machine.{transition}
use Rattle.policy.specs.declared.Bound.{Bound}
use Rattle.policy.specs.declared.Bound.TheVariants.{Unbounded}
use Rattle.policy.specs.Policy.{Policy, satisfies}
use Rattle.policy.specs.Typing.{typed as Typed, Typing, policy_type}
use Rattle.policy.specs.Trips.{trips_policy}
use Rattle.policy.proofs.Typings.{typed-as}
use Rattle.policy.proofs.Rules.{verdict-satisfied}
use Rattle.syntax.specs.Nodes.{propositions_of}
use Rattle.syntax.specs.Meaning.{sheet_policy}
use Rattle.typing.specs.Typed.{Judgement, faulty, sound, no_types}
use Rattle.sheet_judge.specs.Judge.{judge}
use Rattle.sheet_writer.specs.Bytes.{sheet_bytes}
use Rattle.table.specs.Table.{type_of, actions_of, row_step, verdict_by, verdict}
use Rattle.table.specs.Answer.{mode_number}
use Rattle.starred.specs.Right.{Case, Right, AllRight}
use Rattle.starred.specs.Starred.{starred}
use Rattle.starred.proofs.Bisimulation.{alike_test, alike-sound}
use Rattle.starred.proofs.Tables.{accepted_test, accepted-sound}
use Rattle.starred.proofs.Machines.{machine_of, machine_test, machine-sound}

module _ (case : Case) where
  abbrev actions : ℕ
  actions = case.sheet.actions

  abbrev propositions : ℕ → ℕ
  propositions = propositions_of case.sheet

  abbrev policy : Policy
  policy = sheet_policy case.sheet

  abbrev machine : List ℕ
  machine = machine_of actions propositions case.sheet.count policy

  -- the machine of the policy trips where the policy does, and the table's rows where the machine does
  abbrev reads_test : Bool
  reads_test =
      machine_test actions propositions case.sheet.count policy && alike_test actions (row_step case.table) (transition 255 actions machine) 0 0

  abbrev table_test : Bool
  table_test = accepted_test case.table && (eqb (actions_of case.table) actions && (eqb (type_of case.table) (mode_number case.mode) && reads_test))

  gives : {bound : Bound} → policy_type policy ≡ Typed case.mode bound → type_of case.table ≡ mode_number case.mode → reads_test ≡ true
      → (w : List ℕ) → Sequence actions w → verdict case.table w ≡ satisfies propositions policy w
  gives {bound} t e r w s =
      ap (verdict_by (type_of case.table)) trips-alike
      ∙ ap (λ (type : ℕ). verdict_by type (trips_policy propositions policy w)) e
      ∙ verdict-satisfied propositions (λ m. verdict_by (mode_number m)) (λ b. refl) (λ b. refl) case.mode policy bound t w
    where
      trips-alike : trips (row_step case.table) 0 w ≡ trips_policy propositions policy w
      trips-alike =
          let h = and-true _ _ r in
          (alike-sound actions (row_step case.table) (transition 255 actions machine) 0 0 h.1).same w s
          ∙ (machine-sound actions propositions case.sheet.count policy (typed-as t) h.0).agrees w s

  -- A case whose sheet is judged sound, whose policy is of the type, and whose table passes the test is right.
  right : {types : List NodeType} {bound : Bound} → judge (sheet_bytes case.sheet) ≡ sound case.mode case.sheet types
      → policy_type policy ≡ Typed case.mode bound → table_test ≡ true → Right case
  right {types} {bound} j t e =
      let a = and-true _ _ e in
      let b = and-true _ _ a.1 in
      let c = and-true _ _ b.1 in
      let type : type_of case.table ≡ mode_number case.mode = eqb-true _ _ c.0 in
      record {
        types = types;
        judged = j;
        bound = bound;
        typed = t;
        accepted = accepted-sound case.table a.0;
        acting = eqb-true _ _ b.0;
        type = type;
        verdicts = gives t type c.1;
      }

-- what is found of a case's sheet, and what it has to be
abbrev types_of : Judgement → List NodeType
types_of (faulty f) = no_types
types_of (sound mode sheet types) = types

abbrev bound_of : Typing → Bound
bound_of (Typed mode bound) = bound
bound_of None = Unbounded

abbrev found : Case → Judgement × Typing
found case = (judge (sheet_bytes case.sheet), policy_type (sheet_policy case.sheet))

abbrev asked : Case → Judgement × Typing
asked case = (sound case.mode case.sheet (types_of (found case).0), Typed case.mode (bound_of (found case).1))

abbrev tables_test : List Case → Bool
tables_test [] = true
tables_test (case ∷ cases) = table_test case && tables_test cases

cases-right : (cases : List Case) → map found cases ≡ map asked cases → tables_test cases ≡ true → AllRight cases
cases-right [] j e = tt
cases-right (case ∷ cases) j e =
    let first : found case ≡ asked case = cc in
    let rest : map found cases ≡ map asked cases = cc in
    let h = and-true (table_test case) (tables_test cases) e in
    (right case (ap (λ (x : Judgement × Typing). x.0) first) (ap (λ (x : Judgement × Typing). x.1) first) h.0, cases-right cases rest h.1)

-- Each starred sheet is judged sound, and its table is accepted and has its policy's verdict after every sequence: all computed.
pub starred-right : AllRight starred
starred-right = cases-right starred refl refl
