-- `joining::call::join_with` meets its contract: one way out of `Joins` for each answer, in the order of the checks.
use mathlib.Core.Path.{◌≡◌, refl}
use mathlib.Core.List.{List, []}
use Prim.Native.Nat.{ℕ, ◌≤◌}
use native.Mathlib.Omega.{arith}
use borrow.Author.Rules.{rules}
use lib.ListN.{length}
use Rattle.std.proofs.Common.{Option, Some, None, Result, Err, ok_or}
use Rattle.limits.specs.Lengths.{work_length}
use Rattle.limits.specs.declared.Limits.{Limits}
use Rattle.table.specs.Answer.{Answer}
use Rattle.making.specs.Making.{WritesTo}
use Rattle.joining.specs.Tables.{rest_at, CountFits}
use Rattle.joining.specs.Joins.{Joins, miscounted, left_over, mixed, meets}
use Rattle.joining.specs.Calling.{answer_of}
use Rattle.joining.specs.Reading.{AllFit, LaidOut}
use Rattle.joining.specs.declared.JoinError.{JoinError}
use Rattle.joining.specs.declared.JoinError.TheVariants.{OtherActions}
use Rattle.joining.proofs.Walking.{refused-first, nothing_left, left_behind}
use Rattle.joining.proofs.Meeting.{tables-readable, acting, machine_meets}
use Rattle.joining.proofs.call.join_with.Goals as goal
use Rattle.joining.proofs.call.join_with.Goals.{In_ok-end, After-lay_out, In_ok-actions, then-count-lt2-via-then-count-lt2, then-count-lt2-via-else-count-lt2+then-count-gt8}

-- a refusal writes nothing
refuses : {count : ℕ} {input : List ℕ} {limits : Limits} {answer : Answer} (out : List ℕ) → Joins count input limits answer []
    → WritesTo (Joins count input limits) answer out out
refuses out j = record { written = []; gives = j; front = refl }

pub returns-then-count-lt2 : goal.returns-then-count-lt2
returns-then-count-lt2 c =
    refuses _
    (miscounted (λ f.
    let low = f.low in
    let high = f.high in
    elim c.then-count-lt2.branch [
      | then-count-lt2-via-then-count-lt2 w ↦ omega (arith, w.if-count-lt2.true)
      | then-count-lt2-via-else-count-lt2+then-count-gt8 w ↦ omega (arith, w.if-count-gt8.true)
    ]))

pub returns-in_err-end : goal.returns-in_err-end
returns-in_err-end c =
    let is : c.from_residual.result ≡ Err c.in_err-end.field-0.0 = search rules in
    let counted : CountFits c.args.count = record { low = omega (arith, c.if-count-lt2.false); high = omega (arith, c.if-count-gt8.false) } in
    rw is (refuses _ (refused-first counted c.in_err-end.ensures))

-- all tables are fit
module _ (c : In_ok-end) where
  counted : CountFits c.args.count
  counted = record { low = omega (arith, c.if-count-lt2.false); high = omega (arith, c.if-count-gt8.false) }

  all : AllFit c.args.count c.args.tables.now c.in_ok-end.end
  all = c.in_ok-end.ensures

pub returns-then-end-tables : goal.returns-then-end-tables
returns-then-end-tables c =
    let t = (goal.at.returns-then-end-tables c).In_ok-end in
    refuses _ (left_over (counted t) (all t).fit (left_behind (all t) (λ e. let q = c.if-end-tables.true in omega arith)))

-- nothing is left over
module _ (c : After-lay_out) where
  abbrev tables : In_ok-end
  tables = (goal.at.After-lay_out c).In_ok-end

  whole : rest_at c.args.tables.now c.args.count ≡ []
  whole = nothing_left (all tables) (let e = c.if-end-tables.false in omega arith)

  differs : (found : Option ℕ) → LaidOut c.args.count c.args.tables.now found c.lay_out.new.work → (error : JoinError)
      → ◌≡◌ {A = Result ℕ JoinError} (Err error) (ok_or found OtherActions) → Joins c.args.count c.args.tables.now c.args.limits (answer_of (Err error)) []
  differs None l error e = let is : error ≡ OtherActions = cc in rw is (mixed (counted tables) (all tables).fit whole l)
  differs (Some actions) l error e = absurd (let z : ◌≡◌ {A = ℕ} 0 1 = cc in omega arith)

pub returns-in_err-actions : goal.returns-in_err-actions
returns-in_err-actions c =
    let is : c.from_residual-in_err-actions.result ≡ Err c.in_err-actions.field-0.0 = search rules in
    let l = (goal.at.returns-in_err-actions c).After-lay_out in
    rw is (refuses _ (differs l c.lay_out.result c.lay_out.ensures _ c.in_err-actions.ensures.value))

-- over one list of actions
module _ (c : In_ok-actions) where
  abbrev laid : After-lay_out
  laid = (goal.at.In_ok-actions c).After-lay_out

  agreed : LaidOut c.args.count c.args.tables.now (Some c.in_ok-actions.actions) c.lay_out.new.work
  agreed = rw c.in_ok-actions.ensures.ok_part at c.lay_out.ensures

  room : work_length ≤ length c.lay_out.new.work
  room = omega (arith, c.requires.to-work.bytes, c.lay_out.auto)

pub build_joined-requires-clause-tables_readable : goal.build_joined-requires-clause-tables_readable
build_joined-requires-clause-tables_readable c =
    let a = (goal.at.build_joined-requires-clause-tables_readable c).In_ok-actions in
    let t = tables (laid a) in (
      tables-readable c.args.count c.args.tables.now c.lay_out.new.work c.in_ok-actions.actions (all t).fit (agreed a).0 (agreed a).1 (counted t).high (room a),
      acting c.args.count c.args.tables.now c.lay_out.new.work c.in_ok-actions.actions (all t).fit (agreed a).0 (agreed a).1 (omega (arith, (counted t).low)),
    )

pub returns : goal.returns
returns c =
    let a = (goal.at.returns c).In_ok-actions in
    let t = tables (laid a) in
    let e = c.build_joined.ensures in
    record {
      written = e.written;
      gives = meets (counted t) (all t).fit (whole (laid a)) c.in_ok-actions.actions (agreed a).0 _ _ (machine_meets c.args.count c.args.tables.now c.lay_out.new.work c.in_ok-actions.actions (all t).fit (agreed a).0 (agreed a).1 e.gives);
      front = e.front;
    }
