-- `board::calls::put_on` meets its contract.
use mathlib.Core.Path.{◌≡◌, sym, ◌∙◌, ap, subst}
use mathlib.Core.Bool.{true, false}
use mathlib.Core.List.{List}
use Prim.Native.Nat.{ℕ}
use borrow.Author.Rules.{rules}
use Rattle.std.specs.Prelude.{Err}
use Rattle.trace.proofs.Laws.{not-both}
use Rattle.table.specs.Answer.{mode_number, accepted, Loads}
use Rattle.places.specs.Layout.{place_count}
use Rattle.places.specs.Places.{with_case}
use Rattle.places.specs.declared.Case.{Case}
use Rattle.view.specs.View.{view_of}
use Rattle.view.specs.Moves.{first_case}
use Rattle.view.specs.Steps.{put_on, SameActions, here, later, puts}
use Rattle.view.proofs.Calling.{call-refused, call-carried}
use Rattle.board_checks.specs.Targets.{EmptyTarget}
use Rattle.scan.proofs.Surveying.{same-actions, other-actions}
use Rattle.board.specs.declared.errors.PutError.TheVariants.{Target, Load}
use Rattle.board.proofs.Loaded.{loaded-type, loaded-actions, loaded-accepted, loaded-fits}
use Rattle.board.proofs.Refused.{target-refused, put-refused, load-refused}
use Rattle.board.proofs.calls.put_on.Goals as goal
use Rattle.board.proofs.calls.put_on.Goals.{In-Empty, In_ok-header}

pub returns-in_err-known : goal.returns-in_err-known
returns-in_err-known c =
    let is : c.from_residual.result ≡ Err (Target c.in_err-known.field-0.0) = search rules in
    rw is (target-refused _ _ _ (put_on _ _) _ (λ check s. call-refused (put_on _ _) s) c.in_err-known.field-0.0 c.in_err-known.ensures)

pub returns-in_default : goal.returns-in_default
returns-in_default c =
    let l = rw c.in_default.is at c.in_ok-known.ensures in
    call-refused (put_on _ _) (later l.within.whole (later l.within.below (later l.can (here (λ e. not-both (sym l.on ∙ e))))))

-- an empty place
module _ (c : In-Empty) where
  empty : EmptyTarget c.args.board.now c.args.area.now c.args.place c.in-Empty.known
  empty = rw c.in-Empty.is at c.in_ok-known.ensures

pub returns-in_err-header : goal.returns-in_err-header
returns-in_err-header c =
    let is : c.from_residual-in_err-header.result ≡ Err (Load c.in_err-header.field-0.0) = search rules in
    rw is (load-refused _ _ _ _ (empty (goal.at.returns-in_err-header c).In-Empty) _ c.in_err-header.field-0.0 c.in_err-header.ensures)

-- a table that the loader accepts
module _ (c : In_ok-header) where
  abbrev table : List ℕ
  table = c.args.table.now

  loads : Loads table (accepted (mode_number c.in_ok-header.header.mode) c.in_ok-header.header.actions c.in_ok-header.header.rows)
  loads = c.in_ok-header.ensures

  abbrev Same : ℕ → Type 0
  Same = SameActions place_count (view_of c.args.board.now c.args.area.now)

pub returns-then-not-admits : goal.returns-then-not-admits
returns-then-not-admits c =
    let m = (goal.at.returns-then-not-admits c).In_ok-header in
    let e = empty (goal.at.returns-then-not-admits c).In-Empty in
    let ok = loaded-accepted (loads m) in
    let no : c.admits.result ≡ false = search rules in
    let differs = other-actions _ _ c.in-Empty.known c.in_ok-header.header.actions e.surveyed (sym c.admits.ensures ∙ no) in
    put-refused _ _ _ _ e _ (later ok.formed (later ok.canonical (here (λ same. differs (subst (Same m) (sym (loaded-actions (loads m))) same)))))

pub write_place-requires-clause-bytes_len_bound : goal.write_place-requires-clause-bytes_len_bound
write_place-requires-clause-bytes_len_bound c = loaded-fits _ (loads (goal.at.write_place-requires-clause-bytes_len_bound c).In_ok-header)

pub returns : goal.returns
returns c =
    let m = (goal.at.returns c).In_ok-header in
    let e = empty (goal.at.returns c).In-Empty in
    let ok = loaded-accepted (loads m) in
    let yes : c.admits.result ≡ true = search rules in
    let same = same-actions _ _ c.in-Empty.known c.in_ok-header.header.actions e.surveyed (sym c.admits.ensures ∙ yes) in
    let next = c.with_case.ensures ∙ ap (λ (x : Case). with_case c.args.board.now c.args.place x) (c.first_case.ensures ∙ ap first_case (loaded-type (loads m))) in
    call-carried (put_on _ _) (e.within.whole, (e.within.below, (e.can, (e.free, (ok.formed, (ok.canonical, (subst (Same m) (loaded-actions (loads m)) same, tt))))))) puts next c.write_place.ensures
