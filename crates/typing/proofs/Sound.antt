-- A formed sheet that is judged sound is sound in plain statements.
-- Assumes nothing.
use Rattle.syntax.specs.declared.TypeError.TheVariants.{TooLong, Unfit}
use Rattle.std.proofs.Common.{Err, Ok}
use Rattle.syntax.specs.declared.Node.{Node}
use mathlib.Core.Path.{◌≡◌, refl, sym, ap, subst, ◌∙◌}
use mathlib.Core.Bool.{Bool, true, false, cond}
use mathlib.Core.Logic.{◌⊎◌, inl, inr}
use mathlib.Core.List.{List}
use Prim.Native.Nat.{ℕ, zero, suc, ◌-◌, ◌≤◌, ◌<◌}
use native.Mathlib.Decide.{ℕ_discrete}
use native.Mathlib.Omega.{arith}
use lib.ListN.{length, set, length-set}
use lib.Seq.{get_or-set_same, get_or-set_other}
use Rattle.base.specs.Sets.{bit}
use Rattle.base.proofs.Lists.{get_or-blank}
use Rattle.base.proofs.Truths.{not-true}
use Rattle.trace.specs.declared.Mode.{Mode}
use Rattle.policy.specs.declared.Bound.{Bound}
use Rattle.syntax.specs.Nodes.{node_at, node_of}
use Rattle.syntax.specs.Formed.{PartsBelow, Formed}
use Rattle.syntax.specs.Types.{TypeFound, type_at, type_from, type_node}
use Rattle.typing.specs.Typed.{Typings, mistyped, typed, no_types, type_next, unless_mistyped, type_nodes, sound, judge_last, judge_typed, judge_sheet, TypedAs, used, spare, SoundSheet}
use Rattle.syntax.specs.declared.NodeType.{NodeType}
use Rattle.syntax.specs.declared.NodeType.TheVariants.{Unused, Formula, Policy}
use Rattle.syntax.specs.declared.Sheet.{Sheet}
use Rattle.reached.specs.Parts.{Used, used_set}
use Rattle.reached.proofs.NodeParts.{over_equal}
use Rattle.reached.proofs.NodeSets.{part-below, used-exactly}

-- The types of the first n nodes, in an array of 64: each used one's is made of its parts' types.
pub record TypesOf (used : ℕ) (nodes : List Node) (n : ℕ) (types : List NodeType) : Type 0 where
  pub sized : length types ≡ 64
  pub each : (i : ℕ) → i < n → bit used i ≡ true → type_node (node_at nodes i) (type_at types) ≡ Ok (type_at types i)
  pub none : (i : ℕ) → bit used i ≡ false → type_at types i ≡ Unused

module _ (used : ℕ) (nodes : List Node) where
  -- node n has its type after those before, or is not used and has none
  record Typed (n : ℕ) (before types : List NodeType) : Type 0 where
    in_use : bit used n ≡ true
    type : NodeType
    fits : type_node (node_at nodes n) (type_at before) ≡ Ok type
    all : types ≡ set before n type

  record Passed (n : ℕ) (before types : List NodeType) : Type 0 where
    spare : bit used n ≡ false
    same : types ≡ before

  record Last (n : ℕ) (types : List NodeType) : Type 0 where
    before : List NodeType
    was : type_nodes used nodes n ≡ typed before
    next : Typed n before types ⊎ Passed n before types

  last_of : (n : ℕ) {types : List NodeType} → type_nodes used nodes (suc n) ≡ typed types → Last n types
  last_of n {types} e = by (type_nodes used nodes n) refl e
    where
      found : (before : List NodeType) → bit used n ≡ true → (t : TypeFound) → type_node (node_at nodes n) (type_at before) ≡ t
          → type_next n before t ≡ typed types → Typed n before types
      found before u (Ok t) q e = record { in_use = u; type = t; fits = q; all = cc }
      found before u (Err Unfit) q e = cc
      found before u (Err TooLong) q e = cc

      own : (before : List NodeType) (b : Bool) → bit used n ≡ b
          → cond b (type_next n before (type_node (node_at nodes n) (type_at before))) (typed before) ≡ typed types → Typed n before types ⊎ Passed n before types
      own before true u e = inl (found before u (type_node (node_at nodes n) (type_at before)) refl e)
      own before false u e = inr (record { spare = u; same = cc })

      by : (o : Typings) → type_nodes used nodes n ≡ o
          → unless_mistyped o (λ types. cond (bit used n) (type_next n types (type_node (node_at nodes n) (type_at types))) (typed types)) ≡ typed types → Last n types
      by (mistyped f t) p e = cc
      by (typed before) p e = record { before = before; was = p; next = own before (bit used n) refl e }

  more : (n : ℕ) → n < 64 → ((i : ℕ) → i < suc n → PartsBelow i (node_at nodes i)) → {before types : List NodeType} → Typed n before types ⊎ Passed n before types
      → TypesOf used nodes n before → TypesOf used nodes (suc n) types
  more n small parts {before} {types} (inl l) ih =
      record {
        sized = rw l.all (length-set before n l.type ∙ ih.sized);
        each = each;
        none = λ i u. kept i (λ e. absurd (let z = sym u ∙ ap (bit used) e ∙ l.in_use in not-true z)) ∙ ih.none i u;
      }
    where
      kept : (i : ℕ) → (i ≡ n → ⊥) → type_at types i ≡ type_at before i
      kept i h = rw l.all ((get_or-set_other before n i l.type Unused h))

      newest : type_at types n ≡ l.type
      newest =
          rw l.all
          ((get_or-set_same before n l.type Unused (omega (arith, ih.sized))))

      each : (i : ℕ) → i < suc n → bit used i ≡ true → type_node (node_at nodes i) (type_at types) ≡ Ok (type_at types i)
      each i h u =
          ap type_from (over_equal (type_at types) (type_at before) (node_at nodes i) (λ k p. kept k (let g = part-below i k (node_at nodes i) (parts i h) p in λ e. omega arith)))
          ∙ by (ℕ_discrete i n)
        where
          by : Dec (i ≡ n) → type_node (node_at nodes i) (type_at before) ≡ Ok (type_at types i)
          by (yes p) = rw p (l.fits ∙ ap Ok (sym newest))
          by (no q) = ih.each i (omega arith) u ∙ ap Ok (sym (kept i q))
  more n small parts {before} {types} (inr l) ih = subst (TypesOf used nodes (suc n)) (sym l.same) (record { sized = ih.sized; each = each; none = ih.none })
    where
      each : (i : ℕ) → i < suc n → bit used i ≡ true → type_node (node_at nodes i) (type_at before) ≡ Ok (type_at before i)
      each i h u = elim (ℕ_discrete i n) [
        | yes p ↦ not-true (sym l.spare ∙ ap (bit used) (sym p) ∙ u)
        | no q ↦ ih.each i (omega arith) u
      ]

  pub types_of : (n : ℕ) → n ≤ 64 → ((i : ℕ) → i < n → PartsBelow i (node_at nodes i)) → (types : List NodeType) → type_nodes used nodes n ≡ typed types
      → TypesOf used nodes n types
  types_of zero small parts types e =
      let same : types ≡ no_types = cc in
      record {
        sized = ap length same;
        each = λ i h. absurd (omega arith);
        none = λ i u. ap (λ (l : List NodeType). type_at l i) same ∙ (get_or-blank 64 i Unused);
      }
  types_of (suc n) small parts types e =
      let l = last_of n e in
      more n (omega arith) parts l.next (types_of n (omega arith) (λ i h. parts i (omega arith)) l.before l.was)

-- What judging a sheet sound says of it.
record JudgedSound (sheet : Sheet) (mode : Mode) (other : Sheet) (types : List NodeType) : Type 0 where
  same : other ≡ sheet
  all : type_nodes (used_set sheet) sheet.nodes sheet.count ≡ typed types
  bound : Bound
  last : type_at types (sheet.count - 1) ≡ Policy mode bound

from-judged : (sheet : Sheet) {mode : Mode} {other : Sheet} {types : List NodeType} → judge_sheet sheet ≡ sound mode other types
    → JudgedSound sheet mode other types
from-judged sheet {mode} {other} {types} e = by (type_nodes (used_set sheet) sheet.nodes sheet.count) refl e
  where
    last : (all : List NodeType) → type_nodes (used_set sheet) sheet.nodes sheet.count ≡ typed all → (t : NodeType) → type_at all (sheet.count - 1) ≡ t
        → judge_last sheet all t ≡ sound mode other types → JudgedSound sheet mode other types
    last all p Unused q e = cc
    last all p Formula q e = cc
    last all p (Policy m k) q e =
        let alike : all ≡ types = cc in
        let also : m ≡ mode = cc in
        record { same = cc; all = rw alike at p; bound = k; last = rw also at (rw alike at q) }

    by : (o : Typings) → type_nodes (used_set sheet) sheet.nodes sheet.count ≡ o → judge_typed sheet o ≡ sound mode other types → JudgedSound sheet mode other types
    by (mistyped f t) p e = cc
    by (typed all) p e = last all p (type_at all (sheet.count - 1)) refl e

module _ (sheet : Sheet) {mode : Mode} {other : Sheet} {types : List NodeType} (judged : judge_sheet sheet ≡ sound mode other types) where
  pub judged-sound : Formed sheet → SoundSheet mode sheet types
  judged-sound formed = record { formed = formed; types-each = λ n h. by n h (bit (used_set sheet) n) refl; bound = j.bound; last = j.last }
    where
      j : JudgedSound sheet mode other types
      j = from-judged sheet judged

      t : TypesOf (used_set sheet) sheet.nodes sheet.count types
      t = types_of (used_set sheet) sheet.nodes sheet.count formed.few-nodes formed.parts types j.all

      by : (n : ℕ) → n < sheet.count → (b : Bool) → bit (used_set sheet) n ≡ b → TypedAs sheet types n
      by n h true e = used ((used-exactly sheet formed n).0 e) (t.each n h e)
      by n h false e = spare (λ u. not-true (sym e ∙ (used-exactly sheet formed n).1 u)) (t.none n e)

-- a sheet that is sound: a node that has a type is used, and has it from its parts
module _ {mode : Mode} {sheet : Sheet} {types : List NodeType} (sound : SoundSheet mode sheet types) (n : ℕ) where
  pub typed-used : n < sheet.count → (type_at types n ≡ Unused → ⊥) → Used sheet n
  typed-used h t = elim (sound.types-each n h) [ used u e ↦ u | spare u e ↦ absurd (t e) ]

  pub typed-fits : n < sheet.count → (type_at types n ≡ Unused → ⊥) → type_node (node_of sheet n) (type_at types) ≡ Ok (type_at types n)
  typed-fits h t = elim (sound.types-each n h) [ used u e ↦ e | spare u e ↦ absurd (t e) ]

-- what is a formula or a policy has a type
pub typed-formula : {t : NodeType} → t ≡ Formula → t ≡ Unused → ⊥
typed-formula e d = cc

pub typed-policy : {t : NodeType} {m : Mode} {k : Bound} → t ≡ Policy m k → t ≡ Unused → ⊥
typed-policy e d = cc
