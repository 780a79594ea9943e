-- The goals of `part_words::parts::push_parts` that the check leaves.
use mathlib.Core.Path.{◌≡◌, refl, ap, ◌∙◌}
use Prim.Native.Nat.{◌+◌, ℕ, ◌-◌, ◌≤◌, ◌<◌}
use native.Mathlib.Omega.{arith}
use lib.ListN.{drop, set, length-set}
use Rattle.sheet_layout.specs.Layout.{field}
use Rattle.part_words.specs.Kinds.{part_count}
use Rattle.part_words.proofs.KindLaws.{few-parts}
use Rattle.part_words.proofs.PartLaws.{none-pushed, push-one}
use Rattle.part_words.proofs.parts.push_parts.Goals as goal
use Rattle.part_words.proofs.parts.push_parts.Goals.{In-loop-part}

pub loop-part-init : goal.loop-part-init
loop-part-init c =
    let a = c.args in
    let counted : c.part_count-count.result ≡ part_count (field a.sheet.now a.node 0) = c.part_count-count.ensures.0 ∙ ap part_count c.node_field.ensures in
    (refl, omega arith, omega arith, none-pushed a.sheet.now a.node (drop a.from a.stack.now) c.part_count-count.result counted)

pub loop-part-preserved : goal.loop-part-preserved
loop-part-preserved c =
    let a = c.args in
    let l = c.loop-part in
    let i = l.invariant in
    let few = few-parts (field a.sheet.now a.node 0) in
    let field_number : 2 + (l.part - 1) ≡ 1 + l.part = omega arith in (
      length-set l.stack (l.top - 1) c.node_field-in-loop-part.result ∙ i.0,
      omega (arith, i.1),
      omega (arith, i.1, i.2),
      ap (λ (v : ℕ). drop (l.top - 1) (set l.stack (l.top - 1) v)) (c.node_field-in-loop-part.ensures ∙ ap (field a.sheet.now a.node) field_number)
          ∙ push-one a.sheet.now a.node a.stack.now l.stack a.from l.top l.part (omega (arith, i.1, i.2)) (omega (arith, i.0, i.1, i.2, c.requires.0)) (omega arith) i.1 i.3,
    )

pub returns : goal.returns
returns c =
    let a = c.args in
    let l = c.loop-part in
    let i = l.invariant in
    let few = few-parts (field a.sheet.now a.node 0) in
    let none : l.part ≡ 0 = omega arith in
    record { sized = i.0; on-top = rw none at i.3; few = omega (arith, i.2); onward = omega (arith, i.1, i.2) }

-- no part is past the third
few : (c : In-loop-part) → c.loop-part.part ≤ 3
few c = let a = c.args in omega (arith, c.loop-part.invariant.1, few-parts (field a.sheet.now a.node 0))

-- there is room for the next part
room : (c : In-loop-part) → 0 < c.loop-part.top
room c = let a = c.args in let i = c.loop-part.invariant in omega (arith, i.1, i.2, few-parts (field a.sheet.now a.node 0))

pub overflow_sub-top : goal.overflow_sub-top
overflow_sub-top c = omega (arith, room c)

pub overflow_add-part : goal.overflow_add-part
overflow_add-part c = omega (arith, few c)

pub node_field-requires-in-loop-part : goal.node_field-requires-in-loop-part
node_field-requires-in-loop-part c = omega (arith, few c)

pub offset_bounds-stack-top : goal.offset_bounds-stack-top
offset_bounds-stack-top c = omega (arith, room (goal.at.offset_bounds-stack-top c).In-loop-part)

pub bounds-stack-top : goal.bounds-stack-top
bounds-stack-top c = omega (arith, room (goal.at.bounds-stack-top c).In-loop-part)
