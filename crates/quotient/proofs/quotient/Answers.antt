-- The goal of `quotient::quotient` that the check leaves: one entry more.
use Rattle.std.proofs.Common.{◌≡◌, List, ℕ, ◌+◌, ◌*◌, ◌<◌, get_or, sym, ap, ◌∙◌, subst, arith}
use mathlib.Core.Path.{ap₂}
use lib.Arith.{digits_lt, digits_div, digits_mod}
use Rattle.automaton.specs.Partition.{class_of, first_of}
use Rattle.automaton.specs.Quotient.{quotient_entry}
use Rattle.base.proofs.Stored.{Stored, stored_more}
use Rattle.quotient.proofs.quotient.Goals as goal

-- the class behind an action of a row is that entry of the quotient
entry_of : (next classes firsts : List ℕ) (row : ℕ) {actions action : ℕ} → action < actions
    → class_of classes (get_or next (first_of firsts row * actions + action) 0) ≡ quotient_entry actions next classes firsts (row * actions + action)
entry_of next classes firsts row {actions} h =
    ap₂ (λ (x y : ℕ). class_of classes (get_or next (first_of firsts x * actions + y) 0)) (sym (digits_div row h)) (sym (digits_mod row h))

pub loop-action-preserved : goal.loop-action-preserved
loop-action-preserved c =
    let k = c.loop-row.row * c.args.actions + c.loop-action.action in
    let here = c.loop-action-test.true in
    let e : k + 1 ≡ c.loop-row.row * c.args.actions + (c.loop-action.action + 1) = omega arith in
    subst (Stored (quotient_entry c.args.actions c.args.next.now c.args.classes.now c.args.firsts.now) (c.args.count * c.args.actions) c.args.out.now _) e
    (stored_more c.loop-action.invariant (digits_lt c.loop-row-test.true here) c.requires.room
    (c.class_of.ensures ∙ ap (class_of c.args.classes.now) c.target.ensures ∙ entry_of c.args.next.now c.args.classes.now c.args.firsts.now c.loop-row.row here))
