-- The goals of `joining::reading::lay_out` that the check leaves.
use mathlib.Core.Path.{◌≡◌, sym, ◌∙◌, ap, ap₂, subst}
use mathlib.Core.List.{List, ◌++◌}
use Prim.Native.Nat.{ℕ, ◌+◌, ◌*◌, ◌-◌, ◌≤◌, ◌<◌}
use native.Mathlib.Omega.{arith}
use lib.ListN.{length, take, drop, replicate}
use borrow.Rule.Slice.PartMut.{mid_of, put_mid, mid_len}
use Rattle.base.proofs.Lists.{tail}
use Rattle.table.specs.Table.{actions_of, rows_of, table_length, front_table}
use Rattle.table.proofs.Formed.{front-actions}
use Rattle.rules.specs.Rules.{slot_at}
use Rattle.machine_rows.proofs.Slots.{slot-put, slot_kept}
use Rattle.joining.specs.Tables.{table_at, Fit}
use Rattle.joining.specs.Reading.{FitFront, SlotHolds}
use Rattle.joining.proofs.Walking.{front-size, next_fits, fit-more}
use Rattle.joining.proofs.Laying.{Laying, slot-laid, lay-more}
use Rattle.joining.proofs.reading.lay_out.Goals as goal
use Rattle.joining.proofs.reading.lay_out.Goals.{After-lay, After-word}

-- in a turn: the number of actions that was read of the next table
module _ (c : After-word) where
  abbrev rest : List ℕ
  rest = drop c.loop-i.at c.args.tables.now

  here : actions_of (table_at c.args.tables.now c.loop-i.i) ≡ c.word.result
  here =
      ap (λ (l : List ℕ). actions_of (front_table l)) (sym c.loop-i.invariant.0.behind) ∙ front-actions rest
      ∙ sym (c.word.ensures ∙ ap actions_of (tail c.loop-i.at c.args.tables.now))

  of-first : actions_of (table_at c.args.tables.now 0) ≡ c.word-actions.result
  of-first = front-actions c.args.tables.now ∙ sym c.word-actions.ensures

pub returns-then-word-actions : goal.returns-then-word-actions
returns-then-word-actions c A over =
    let k = (goal.at.returns-then-word-actions c).After-word in
    let e : c.word-actions.result ≡ A = sym (of-first k) ∙ over 0 c.requires.1 in
    let f : c.word.result ≡ A = sym (here k) ∙ over c.loop-i.i c.loop-i-test.true in
    omega (arith, c.if-word-actions.true)

-- its rows are laid into the slot
module _ (c : After-lay) where
  abbrev read : After-word
  read = (goal.at.After-lay c).After-word

  abbrev i : ℕ
  i = c.loop-i.i

  abbrev actions : ℕ
  actions = c.word-actions.result

  abbrev end : ℕ
  end = 8 + c.word-in-loop-i.result * actions

  fit : Fit (front_table (rest read))
  fit = next_fits c.loop-i.invariant.0 (c.requires.0 i c.loop-i-test.true)

  agrees : c.word.result ≡ actions
  agrees = let e = c.if-word-actions.false in omega arith

  ends : 8 + c.word-in-loop-i.result * actions ≡ table_length (rest read)
  ends =
      ap₂ (λ (r a : ℕ). 8 + r * a) (c.word-in-loop-i.ensures ∙ ap rows_of (tail c.loop-i.at c.args.tables.now))
      (sym agrees ∙ c.word.ensures ∙ ap actions_of (tail c.loop-i.at c.args.tables.now))

  front : FitFront (rest read) (8 + c.word-in-loop-i.result * actions)
  front = record { fit = fit; sized = ends; inside = subst (λ (n : ℕ). n ≤ length (rest read)) (sym ends) (front-size (rest read) fit).0 }

  few : i < 8
  few = omega (arith, c.loop-i-test.true, c.requires.2)

  wide : i * 1024 + 1024 ≤ length c.loop-i.work
  wide = omega (arith, few, c.requires.3)

  long : length c.lay.new.slot ≡ i * 1024 + 1024 - i * 1024
  long = omega (arith, c.lay.auto, mid_len (i * 1024) (i * 1024 + 1024) c.loop-i.work wide)

  abbrev laid : List ℕ
  laid = put_mid (i * 1024) (i * 1024 + 1024 - i * 1024) c.loop-i.work c.lay.new.slot

  abbrev marks : ℕ
  marks =
      length (mid_of (i * 1024) (i * 1024 + 1024 - i * 1024) c.loop-i.work)
      - length (mid_of 8 (end - 8) (mid_of c.loop-i.at (length c.args.tables.now - c.loop-i.at) c.args.tables.now))

  own : SlotHolds (slot_at laid i) (table_at c.args.tables.now i)
  own =
      subst (λ (l : List ℕ). SlotHolds l (table_at c.args.tables.now i)) (sym (slot-put i c.loop-i.work c.lay.new.slot wide long))
      (subst (λ (l : List ℕ). SlotHolds c.lay.new.slot (front_table l)) c.loop-i.invariant.0.behind
      (slot-laid (rest read) fit end marks c.lay.new.slot ends
      (c.lay.ensures ∙ ap (λ (l : List ℕ). take (end - 8) (drop 8 l) ++ replicate marks 255) (tail c.loop-i.at c.args.tables.now))))

  more : Laying c.args.tables.now actions (i + 1) laid
  more = lay-more c.loop-i.invariant.1 (here read ∙ agrees) laid (λ j e. slot_kept i c.loop-i.work c.lay.new.slot wide long j e) own

pub loop-i-preserved : goal.loop-i-preserved
loop-i-preserved c =
    let k = (goal.at.loop-i-preserved c).After-lay in
    (fit-more c.loop-i.invariant.0 _ (front k), more k)
