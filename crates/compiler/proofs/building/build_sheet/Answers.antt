-- `compiler::building::build_sheet` meets its contract: the first fault of checks 1 to 7, or what building the rules of the sheet answers.
use mathlib.Core.Path.{◌≡◌}
use mathlib.Core.List.{List}
use Prim.Native.Nat.{ℕ}
use Rattle.std.specs.Prelude.{Ok}
use Rattle.std.proofs.lemmas.Result.{err_from_is_err_and}
use Rattle.trace.specs.declared.Mode.{Mode}
use Rattle.typing.specs.Typed.{sound, SoundSheet}
use Rattle.sheet_judge.specs.Judge.{judge, judged}
use Rattle.sheet_judge.specs.declared.JudgedSheet.{JudgedSheet}
use Rattle.compiler.specs.Compiles.{faulted}
use Rattle.compiler.proofs.Judgements.{judged-faulty, judged-policy}
use Rattle.compiler.proofs.Passed.{passed}
use Rattle.compiler.proofs.Standing.{buildable, sheet-over, sheet-built}
use Rattle.compiler.proofs.building.build_sheet.Goals as goal

pub returns-in_err-mode : goal.returns-in_err-mode
returns-in_err-mode c =
    let p = err_from_is_err_and c.from_residual.result c.from_residual.ensures.1 in
    rw (p.1, p.2) (faulted _ (judged-faulty _ _ _ _ c.judge-judged.ensures c.in_err-mode.was))

-- the checks pass
module _ (bytes : List ℕ) {read : JudgedSheet} (is : read ≡ judged bytes) {mode : Mode} (found : read.found ≡ Ok mode) where
  judgement : judge bytes ≡ sound mode read.sheet read.types
  judgement = judged-policy _ _ _ _ is found

  right : SoundSheet mode read.sheet read.types
  right = passed bytes judgement

pub formula_sets-sets-requires : goal.formula_sets-sets-requires
formula_sets-sets-requires c = (c.in_ok-mode.mode, right c.args.sheet.now c.judge-judged.ensures c.in_ok-mode.was)

pub build_all-requires : goal.build_all-requires
build_all-requires c =
    let rules = rw c.formula_sets-sets.ensures at c.rules_of-rules.ensures in
    rw rules (buildable (right c.args.sheet.now c.judge-judged.ensures c.in_ok-mode.was) c.args.limits c.args.work.now c.args.values.now c.requires)

pub returns-in_err-rows : goal.returns-in_err-rows
returns-in_err-rows c =
    let bytes = c.args.sheet.now in
    let rules = rw c.formula_sets-sets.ensures at c.rules_of-rules.ensures in
    let over = c.in_err-rows.field-0.0 in
    let p = err_from_is_err_and c.from_residual-in_err-rows.result c.from_residual-in_err-rows.ensures.1 in
    rw (p.1, p.2)
    (sheet-over bytes c.args.limits (judgement bytes c.judge-judged.ensures c.in_ok-mode.was) (right bytes c.judge-judged.ensures c.in_ok-mode.was)
    c.requires.range.row.high c.build_all.new.work over.node over.limit (rw rules at c.in_err-rows.ensures))

pub returns : goal.returns
returns c =
    let bytes = c.args.sheet.now in
    let rules = rw c.formula_sets-sets.ensures at c.rules_of-rules.ensures in
    let built = rw rules at c.in_ok-rows.ensures in
    sheet-built bytes c.args.limits (judgement bytes c.judge-judged.ensures c.in_ok-mode.was) (right bytes c.judge-judged.ensures c.in_ok-mode.was)
    c.requires.range.row.high c.build_all.new.work _ built.0 built.1
