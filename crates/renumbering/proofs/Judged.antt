-- What judging says of a formed sheet: it is faulty exactly at its first fault, and sound exactly where it is well typed.
-- Assumes nothing.
use Rattle.syntax.specs.declared.TypeError.TheVariants.{TooLong, Unfit}
use Rattle.std.proofs.Common.{Err, Ok}
use Rattle.syntax.specs.declared.Node.{Node}
use mathlib.Core.Path.{◌≡◌, refl, ap, subst, ◌∙◌}
use mathlib.Core.Bool.{Bool, true, false, cond}
use mathlib.Core.List.{List}
use mathlib.Core.Logic.{◌↔◌}
use Prim.Native.Nat.{ℕ, zero, suc, ◌-◌, ◌≤◌, ◌<◌}
use native.Mathlib.Omega.{arith}
use Rattle.base.specs.Sets.{bit}
use Rattle.trace.specs.declared.Mode.{Mode}
use Rattle.syntax.specs.Formed.{Formed}
use Rattle.syntax.specs.Nodes.{node_at, node_of}
use Rattle.syntax.specs.Types.{TypeFound, type_at, type_node}
use Rattle.syntax.specs.declared.Fault.{Fault}
use Rattle.syntax.specs.declared.Fault.TheVariants.{WrongTypeAt, BoundAt}
use Rattle.syntax.specs.declared.NodeType.{NodeType}
use Rattle.syntax.specs.declared.NodeType.TheVariants.{Unused, Formula, Policy}
use Rattle.syntax.specs.declared.Sheet.{Sheet}
use Rattle.reached.specs.Reached.{itself}
use Rattle.reached.specs.Parts.{Used, used_set}
use Rattle.reached.proofs.NodeSets.{used-exactly, used-below}
use Rattle.typing.specs.Typed.{Typings, mistyped, typed, type_next, unless_mistyped, type_nodes, Judgement, faulty, sound, judge_last, judge_typed, judge_sheet}
use Rattle.typing.proofs.Sound.{types_of}
use Rattle.renumbering.specs.FirstFault.{TypedBefore, FirstFault, unfit, too_long, no-policy, NoFault}
use Rattle.renumbering.proofs.Types.{fits-typed}
use Rattle.renumbering.proofs.FirstFault.{one-fault, one-mode, no-fault}

module _ (used : ℕ) (nodes : List Node) where
  -- a used one of the first n nodes has a fault, and those before it their types
  record FaultAt (n : ℕ) (f : Fault) (after : List NodeType) : Type 0 where
    at : ℕ
    below : at < n
    in_use : bit used at ≡ true
    types : List NodeType
    before : type_nodes used nodes at ≡ typed types
    next : type_next at types (type_node (node_at nodes at) (type_at types)) ≡ mistyped f after

  fault-from : (n : ℕ) (f : Fault) (after : List NodeType) → type_nodes used nodes n ≡ mistyped f after → FaultAt n f after
  fault-from zero f after e = cc
  fault-from (suc n) f after e = by (fault-from n f after) (type_nodes used nodes n) refl e
    where
      own : (types : List NodeType) → type_nodes used nodes n ≡ typed types → (b : Bool) → bit used n ≡ b
          → cond b (type_next n types (type_node (node_at nodes n) (type_at types))) (typed types) ≡ mistyped f after → FaultAt (suc n) f after
      own types p true u e = record { at = n; below = omega arith; in_use = u; types = types; before = p; next = e }
      own types p false u e = cc

      by : (type_nodes used nodes n ≡ mistyped f after → FaultAt n f after) → (o : Typings) → type_nodes used nodes n ≡ o
          → unless_mistyped o (λ types. cond (bit used n) (type_next n types (type_node (node_at nodes n) (type_at types))) (typed types)) ≡ mistyped f after
          → FaultAt (suc n) f after
      by ih (mistyped g t) p e =
          let a = ih (p ∙ e) in
          record { at = a.at; below = omega (arith, a.below); in_use = a.in_use; types = a.types; before = a.before; next = a.next }
      by ih (typed types) p e = own types p (bit used n) refl e

-- A judgement of a sheet, in plain statements.
pub data Told (sheet : Sheet) : Judgement → Type 0 where
  at-fault : (f : Fault) → FirstFault sheet f → Told sheet (faulty f)
  no-faults : (mode : Mode) (types : List NodeType) → NoFault mode sheet (type_at types) → Told sheet (sound mode sheet types)

module _ (sheet : Sheet) (formed : Formed sheet) where
  typed-before : (n : ℕ) → n ≤ sheet.count → (types : List NodeType) → type_nodes (used_set sheet) sheet.nodes n ≡ typed types
      → TypedBefore sheet (type_at types) n
  typed-before n h types e i g u =
      (types_of (used_set sheet) sheet.nodes n (omega (arith, formed.few-nodes)) (λ k l. formed.parts k (omega arith)) types e).each i g
      ((used-exactly sheet formed i).1 u)

  first-fault : {f : Fault} {after : List NodeType} → FaultAt (used_set sheet) sheet.nodes sheet.count f after → FirstFault sheet f
  first-fault {f} {after} a = by (type_node (node_of sheet a.at) (type_at a.types)) refl a.next
    where
      in_use : Used sheet a.at
      in_use = (used-exactly sheet formed a.at).0 a.in_use

      before : TypedBefore sheet (type_at a.types) a.at
      before = typed-before a.at (omega (arith, a.below)) a.types a.before

      by : (t : TypeFound) → type_node (node_of sheet a.at) (type_at a.types) ≡ t → type_next a.at a.types t ≡ mistyped f after → FirstFault sheet f
      by (Ok t) q e = cc
      by (Err Unfit) q e = let same : WrongTypeAt a.at ≡ f = cc in subst (FirstFault sheet) same (unfit (type_at a.types) a.at in_use before q)
      by (Err TooLong) q e = let same : BoundAt a.at ≡ f = cc in subst (FirstFault sheet) same (too_long (type_at a.types) a.at in_use before q)

  -- Judging a sheet says one of the two.
  pub told : Told sheet (judge_sheet sheet)
  told = by (type_nodes (used_set sheet) sheet.nodes sheet.count) refl
    where
      last : (types : List NodeType) → TypedBefore sheet (type_at types) sheet.count → (t : NodeType) → type_at types (sheet.count - 1) ≡ t
          → Told sheet (judge_last sheet types t)
      last types each Unused e =
          absurd (fits-typed (type_at types) (node_of sheet (sheet.count - 1)) (each (sheet.count - 1) (used-below sheet formed itself) itself ∙ ap Ok e))
      last types each Formula e = at-fault (WrongTypeAt (sheet.count - 1)) (no-policy (type_at types) each e)
      last types each (Policy m k) e = no-faults m types (record { each = each; bound = k; last = e })

      by : (o : Typings) → type_nodes (used_set sheet) sheet.nodes sheet.count ≡ o → Told sheet (judge_typed sheet o)
      by (mistyped f types) e = at-fault f (first-fault (fault-from (used_set sheet) sheet.nodes sheet.count f types e))
      by (typed types) e = last types (typed-before sheet.count (omega arith) types e) (type_at types (sheet.count - 1)) refl

  -- A formed sheet is judged faulty exactly at its first fault.
  pub faulty-exactly : (f : Fault) → (judge_sheet sheet ≡ faulty f) ↔ FirstFault sheet f
  faulty-exactly f = (λ e. to told e, from told)
    where
      to : {j : Judgement} → Told sheet j → j ≡ faulty f → FirstFault sheet f
      to (at-fault g p) e = let same : g ≡ f = cc in subst (FirstFault sheet) same p
      to (no-faults m types w) e = cc

      from : {j : Judgement} → Told sheet j → FirstFault sheet f → j ≡ faulty f
      from (at-fault g p) q = ap faulty (one-fault sheet formed p q)
      from (no-faults m types w) q = no-fault sheet formed w q

  -- It is judged sound of a mode exactly where its used nodes have types and its last one is a policy of the mode.
  pub sound-exactly : (mode : Mode)
      → ((types : List NodeType) × (judge_sheet sheet ≡ sound mode sheet types)) ↔ ((types : ℕ → NodeType) × NoFault mode sheet types)
  sound-exactly mode = (λ s. (type_at s.0, to s.0 told s.1), λ w. from told w.1)
    where
      to : (types : List NodeType) {j : Judgement} → Told sheet j → j ≡ sound mode sheet types → NoFault mode sheet (type_at types)
      to types (at-fault g p) e = cc
      to types (no-faults m all w) e =
          let alike : all ≡ types = cc in
          let also : m ≡ mode = cc in
          subst (λ (k : Mode). NoFault k sheet (type_at types)) also (subst (λ (l : List NodeType). NoFault m sheet (type_at l)) alike w)

      from : {j : Judgement} {types : ℕ → NodeType} → Told sheet j → NoFault mode sheet types → (l : List NodeType) × (j ≡ sound mode sheet l)
      from (at-fault g p) w = no-fault sheet formed w p
      from (no-faults m all w') w = (all, ap (λ (k : Mode). sound k sheet all) (one-mode sheet formed w' w))
