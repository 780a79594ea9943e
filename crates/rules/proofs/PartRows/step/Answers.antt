-- `rules::PartRows::step` meets its contract: each rule has its step.
use mathlib.Core.Path.{◌≡◌, sym, ◌∙◌, ap}
use mathlib.Core.List.{List}
use Prim.Native.Nat.{ℕ, ◌%◌}
use Rattle.trace.specs.Trace.{Move}
use Rattle.rules.specs.declared.NodeRule.{NodeRule}
use Rattle.rules.specs.Rules.{part_at, move_of}
use Rattle.rules.specs.Steps.{code_step}
use Rattle.rules.proofs.Stepping.{plain, copied-code}
use Rattle.rules.proofs.PartRows.step.Goals as goal

-- the step of a rule is that of the rule that it is known to be
stepped : (actions : ℕ) (work : List ℕ) (value action : ℕ) {m : Move ℕ} {rule is : NodeRule} → rule ≡ is
    → m ≡ code_step actions work is value action → m ≡ code_step actions work rule value action
stepped actions work value action e h = h ∙ ap (λ (r : NodeRule). code_step actions work r value action) (sym e)

pub returns-in-Opening : goal.returns-in-Opening
returns-in-Opening c =
    let a = c.args in
    stepped a.self.actions a.self.work.now a.value a.action c.in-Opening.is c.opening_step.ensures

pub returns-in-Count : goal.returns-in-Count
returns-in-Count c =
    let a = c.args in
    stepped a.self.actions a.self.work.now a.value a.action c.in-Count.is c.count_step.ensures

pub returns-in-Same : goal.returns-in-Same
returns-in-Same c =
    let a = c.args in
    stepped a.self.actions a.self.work.now a.value a.action c.in-Same.is
    (rw c.row_move.ensures.0 (plain (part_at a.self.actions a.self.work.now c.in-Same.i (a.value % 256) a.action)))

pub returns-in-Both : goal.returns-in-Both
returns-in-Both c =
    let a = c.args in
    stepped a.self.actions a.self.work.now a.value a.action c.in-Both.is c.both_step.ensures

pub returns-in-Either : goal.returns-in-Either
returns-in-Either c =
    let a = c.args in
    stepped a.self.actions a.self.work.now a.value a.action c.in-Either.is c.either_step.ensures

pub returns-in-Copied : goal.returns-in-Copied
returns-in-Copied c =
    let a = c.args in
    stepped a.self.actions a.self.work.now a.value a.action c.in-Copied.is
    (copied-code (part_at a.self.actions a.self.work.now c.in-Copied.i) a.value a.action (move_of c.move_copies.result) c.move_copies.ensures)

pub returns-in-Before : goal.returns-in-Before
returns-in-Before c =
    let a = c.args in
    stepped a.self.actions a.self.work.now a.value a.action c.in-Before.is c.before_step.ensures

pub returns-in-After : goal.returns-in-After
returns-in-After c =
    let a = c.args in
    stepped a.self.actions a.self.work.now a.value a.action c.in-After.is c.after_step.ensures

pub returns-in-Fulfilling : goal.returns-in-Fulfilling
returns-in-Fulfilling c =
    let a = c.args in
    stepped a.self.actions a.self.work.now a.value a.action c.in-Fulfilling.is c.fulfilling_step.ensures

pub returns-in-Ignoring : goal.returns-in-Ignoring
returns-in-Ignoring c =
    let a = c.args in
    stepped a.self.actions a.self.work.now a.value a.action c.in-Ignoring.is c.ignoring_step.ensures
