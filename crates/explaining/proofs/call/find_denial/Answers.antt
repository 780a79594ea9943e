-- `explaining::call::find_denial` meets its contract: 34, 12, no denial, or the first denied action and the node that is named for it.
use mathlib.Core.Path.{◌≡◌, refl, sym, subst}
use mathlib.Core.Bool.{false}
use mathlib.Core.List.{List}
use Prim.Native.Nat.{ℕ, suc, ◌+◌}
use native.Mathlib.Numerals.{add-one}
use native.Mathlib.Omega.{arith}
use borrow.Author.Rules.{rules}
use lib.ListN.{take}
use lib.Seq.{length-take-le}
use Rattle.base.specs.Build.{Decides}
use Rattle.trace.specs.Trace.{Sequence}
use Rattle.trace.specs.declared.Mode.{Mode}
use Rattle.trace.specs.declared.Mode.TheVariants.{Enforced}
use Rattle.table.specs.Answer.{mode_number}
use Rattle.policy.proofs.Congruent.{sequence-take}
use Rattle.syntax.specs.declared.Sheet.{Sheet}
use Rattle.explaining.specs.Denials.{FirstDenied}
use Rattle.explaining.specs.Explains.{Explanation, no-denial, denied, refused, Finds, no-action, none-denied, first-denied}
use Rattle.explaining.specs.Reading.{FindsBy, Standing}
use Rattle.explaining.proofs.Walks.{not-sequence}
use Rattle.reached.proofs.NodeSets.{all-earlier}
use Rattle.explaining.proofs.Findings.{walkable, namable, none-denied-by, first-denied-by, lowest-violated}
use Rattle.explaining.proofs.Standing.{watched-mode, enforced-mode}
use Rattle.explaining.proofs.call.find_denial.Goals as goal
use Rattle.explaining.proofs.call.find_denial.Goals.{Else-outside, Else-watched, In-Some, Start}

pub returns-then-watched : goal.returns-then-watched
returns-then-watched c =
    let e = watched-mode c.args.built.now.mode (subst (Decides (mode_number c.args.built.now.mode ≡ 2)) c.if-watched.true c.is_watched-watched.ensures) in
    rw e (refl, refl)

-- what is found of an enforced sheet
found-of : {mode : Mode} {sheet : Sheet} {list written : List ℕ} → mode ≡ Enforced → (answer : Explanation) → Finds sheet list answer written → FindsBy mode sheet list answer written
found-of {sheet = sheet} {list} {written} e answer f = subst (λ (m : Mode). FindsBy m sheet list answer written) (sym e) f

-- the sheet is enforced
module _ (c : Else-watched) where
  abbrev start : Start
  start = (goal.at.Else-watched c).Start

  abbrev list : List ℕ
  list = start.args.list.now

  enforced : start.args.built.now.mode ≡ Enforced
  enforced = enforced-mode start.args.built.now.mode (subst (Decides (mode_number start.args.built.now.mode ≡ 2)) c.if-watched.false c.is_watched-watched.ensures)

  stands : Standing Enforced start.args.built.now.sheet start.args.work.now
  stands = subst (λ (m : Mode). Standing m start.args.built.now.sheet start.args.work.now) enforced start.requires

  found : (answer : Explanation) {written : List ℕ} → Finds start.args.built.now.sheet list answer written → FindsBy start.args.built.now.mode start.args.built.now.sheet list answer written
  found answer f = found-of enforced answer f

pub returns-then-outside : goal.returns-then-outside
returns-then-outside c =
    let a = c.args in
    let passed : c.is_watched-watched.result ≡ false = search rules in
    let enforced = enforced-mode a.built.now.mode (subst (Decides (mode_number a.built.now.mode ≡ 2)) passed c.is_watched-watched.ensures) in
    found-of enforced (refused 12 0) (no-action (not-sequence _ a.list.now (rw c.if-outside.true at c.all_actions-outside.ensures)))

-- the list is one of actions
module _ (c : Else-outside) where
  abbrev mine : Else-watched
  mine = (goal.at.Else-outside c).Else-watched

  sequence : Sequence (start mine).args.built.now.sheet.actions (list mine)
  sequence =
      subst (Decides (Sequence (start mine).args.built.now.sheet.actions (list mine))) c.if-outside.false
      mine.all_actions-outside.ensures

pub first_trip-requires : goal.first_trip-requires
first_trip-requires c =
    let q = (goal.at.first_trip-requires c).Else-outside in
    walkable (stands (mine q)) (list (mine q)) (sequence q)

pub returns-in_default : goal.returns-in_default
returns-in_default c =
    let q = (goal.at.returns-in_default c).Else-outside in
    let e = mine q in
    found e no-denial (none-denied (sequence q) (none-denied-by (stands e) (list e) (sequence q) c.in_default.ensures))

pub reached_by_and-set-requires : goal.reached_by_and-set-requires
reached_by_and-set-requires c =
    let e = mine (goal.at.reached_by_and-set-requires c).Else-outside in
    let f = (stands e).right.formed in record { from_bound = omega (arith, f.few-nodes, f.some-node); parts_earlier = all-earlier _ f }

-- an action is denied
module _ (c : In-Some) where
  abbrev all : Else-outside
  all = (goal.at.In-Some c).Else-outside

  abbrev own : Else-watched
  own = mine all

  abbrev place : ℕ
  place = c.in-Some.place

  first : FirstDenied (start own).args.built.now.sheet (list own) place
  first = first-denied-by (stands own) (list own) (sequence all) c.in-Some.ensures

  abbrev front : List ℕ
  front = take (suc place) (list own)

  fronts : Sequence (start own).args.built.now.sheet.actions front
  fronts = sequence-take (start own).args.built.now.sheet.actions (suc place) (list own) (sequence all)

pub slice_bounds-lowest_tripped-end : goal.slice_bounds-lowest_tripped-end
slice_bounds-lowest_tripped-end c =
    let r = (goal.at.slice_bounds-lowest_tripped-end c).In-Some in
    sym (length-take-le (place r + 1) (list (own r)) (omega (arith, (first r).inside)))

pub lowest_tripped-node-requires : goal.lowest_tripped-node-requires
lowest_tripped-node-requires c =
    let r = (goal.at.lowest_tripped-node-requires c).In-Some in
    rw (c.reached_by_and-set.ensures, add-one (place r)) (namable (stands (own r)) (front r) (fronts r))

pub returns : goal.returns
returns c =
    let r = (goal.at.returns c).In-Some in
    let z = start (own r) in
    rw c.from.ensures
    (found (own r) (denied (place r) c.lowest_tripped-node.result)
    (first-denied (sequence (all r)) (place r) _ (first r)
    (lowest-violated (stands (own r)) (front r) (fronts r) (first r).denied
    (rw (← c.reached_by_and-set.ensures, ← add-one (place r)) c.lowest_tripped-node.ensures))))
