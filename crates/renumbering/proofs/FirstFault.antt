-- A formed sheet has one first fault, or one choice of types.
-- Assumes nothing.
use Rattle.syntax.specs.declared.TypeError.TheVariants.{TooLong, Unfit}
use Rattle.std.proofs.Common.{Err, Ok}
use mathlib.Core.Path.{◌≡◌, refl, sym, ap, ◌∙◌}
use Prim.Native.Nat.{ℕ, ◌-◌, ◌≤◌}
use native.Mathlib.Decide.{dec_lt}
use native.Mathlib.Omega.{arith}
use Rattle.trace.specs.declared.Mode.{Mode}
use Rattle.syntax.specs.Formed.{Formed}
use Rattle.syntax.specs.Nodes.{node_of}
use Rattle.syntax.specs.Types.{TypeFound, type_node}
use Rattle.syntax.specs.declared.Fault.{Fault}
use Rattle.syntax.specs.declared.Fault.TheVariants.{WrongTypeAt, BoundAt}
use Rattle.syntax.specs.declared.NodeType.{NodeType}
use Rattle.syntax.specs.declared.Sheet.{Sheet}
use Rattle.reached.specs.Reached.{itself}
use Rattle.reached.specs.Parts.{Used}
use Rattle.reached.proofs.NodeSets.{used-below}
use Rattle.renumbering.specs.FirstFault.{TypedBefore, FirstFault, unfit, too_long, no-policy, NoFault}
use Rattle.renumbering.proofs.Types.{types-agree, found-agree}

-- what is found of a node is no type
abbrev NoType : TypeFound → Type 0
NoType found = (t : NodeType) → found ≡ Ok t → ⊥

module _ (sheet : Sheet) (formed : Formed sheet) where
  -- a used node that has no type, all used ones before it having theirs
  record Stuck (n : ℕ) (found : TypeFound) : Type 0 where
    types : ℕ → NodeType
    in_use : Used sheet n
    before : TypedBefore sheet types n
    is : type_node (node_of sheet n) types ≡ found
    none : NoType found

  no-further : {n m : ℕ} {found : TypeFound} {types : ℕ → NodeType} → Stuck n found → TypedBefore sheet types m → m ≤ n
  no-further {n} {m} {found} {types} s typed = elim (dec_lt n m) [
    | yes h ↦ (let e = found-agree sheet formed s.before typed n (omega arith) (omega arith) s.in_use in
        absurd (s.none (types n) (sym s.is ∙ e ∙ typed n h s.in_use)))
    | no h ↦ omega arith
  ]

  stuck-once : {n m : ℕ} {x y : TypeFound} → Stuck n x → Stuck m y → (n ≡ m) × (x ≡ y)
  stuck-once {n} {m} {x} {y} s t =
      let h = no-further s t.before in
      let g = no-further t s.before in
      let same : n ≡ m = omega arith in
      let e = found-agree sheet formed s.before t.before n (omega arith) (omega arith) s.in_use in
      (same, sym s.is ∙ e ∙ ap (λ (i : ℕ). type_node (node_of sheet i) t.types) same ∙ t.is)

  -- where every used node fits, none is stuck
  none_stuck : {A : Type 0} {n : ℕ} {found : TypeFound} {types : ℕ → NodeType} → Stuck n found → TypedBefore sheet types sheet.count → A
  none_stuck s typed = absurd (let h = no-further s typed in let g = used-below sheet formed s.in_use in omega arith)

  unfit-at : {types : ℕ → NodeType} {n : ℕ} → Used sheet n → TypedBefore sheet types n → type_node (node_of sheet n) types ≡ Err Unfit → Stuck n (Err Unfit)
  unfit-at {types} u b e = record { types = types; in_use = u; before = b; is = e; none = λ t d. cc }

  long-at : {types : ℕ → NodeType} {n : ℕ} → Used sheet n → TypedBefore sheet types n → type_node (node_of sheet n) types ≡ Err TooLong → Stuck n (Err TooLong)
  long-at {types} u b e = record { types = types; in_use = u; before = b; is = e; none = λ t d. cc }

  differ : {A : Type 0} → ◌≡◌ {A = TypeFound} (Err Unfit) (Err TooLong) → A
  differ e = cc

  -- There is one first fault.
  pub one-fault : {f g : Fault} → FirstFault sheet f → FirstFault sheet g → f ≡ g
  one-fault (unfit T n u b e) (unfit T' m v c d) = ap WrongTypeAt (stuck-once (unfit-at u b e) (unfit-at v c d)).0
  one-fault (unfit T n u b e) (too_long T' m v c d) = differ (stuck-once (unfit-at u b e) (long-at v c d)).1
  one-fault (unfit T n u b e) (no-policy T' c d) = none_stuck (unfit-at u b e) c
  one-fault (too_long T n u b e) (unfit T' m v c d) = differ (stuck-once (unfit-at v c d) (long-at u b e)).1
  one-fault (too_long T n u b e) (too_long T' m v c d) = ap BoundAt (stuck-once (long-at u b e) (long-at v c d)).0
  one-fault (too_long T n u b e) (no-policy T' c d) = none_stuck (long-at u b e) c
  one-fault (no-policy T b e) (unfit T' m v c d) = none_stuck (unfit-at v c d) b
  one-fault (no-policy T b e) (too_long T' m v c d) = none_stuck (long-at v c d) b
  one-fault (no-policy T b e) (no-policy T' c d) = refl

  -- types of every used node are one choice
  module _ {f g : ℕ → NodeType} (typed : TypedBefore sheet f sheet.count) (typed' : TypedBefore sheet g sheet.count) where
    pub one-typing : (n : ℕ) → Used sheet n → f n ≡ g n
    one-typing n u = let h = used-below sheet formed u in types-agree sheet formed typed typed' n h h u

  -- A well-typed sheet has one mode, and no fault.
  pub one-mode : {m k : Mode} {f g : ℕ → NodeType} → NoFault m sheet f → NoFault k sheet g → m ≡ k
  one-mode w x = let e = one-typing w.each x.each (sheet.count - 1) itself in cc (w.last, x.last)

  pub no-fault : {A : Type 0} {m : Mode} {types : ℕ → NodeType} {f : Fault} → NoFault m sheet types → FirstFault sheet f → A
  no-fault w (unfit T n u b e) = none_stuck (unfit-at u b e) w.each
  no-fault w (too_long T n u b e) = none_stuck (long-at u b e) w.each
  no-fault w (no-policy T b e) =
      let same = one-typing w.each b (sheet.count - 1) itself in
      absurd (let z : ◌≡◌ {A = ℕ} 0 1 = cc w.last in omega arith)
