-- Laws of bounds that are at most 60 a node: such a bound fits a sheet of 64 nodes.
-- Assumes nothing.
use Rattle.std.proofs.Common.{Ok}
use mathlib.Core.Path.{◌≡◌, refl, ◌∙◌}
use mathlib.Core.Bool.{true}
use Prim.Native.Nat.{ℕ, ◌+◌, ◌*◌, ◌≤◌}
use native.Mathlib.Omega.{arith}
use borrow.Author.Tests.{le-leb}
use Rattle.trace.specs.declared.Mode.{Mode}
use Rattle.policy.specs.Policy.{Policy as APolicy}
use Rattle.policy.specs.Typing.{typed, Typing, larger, plus, policy_type}
use Rattle.policy.specs.declared.Bound.{Bound}
use Rattle.policy.specs.declared.Bound.TheVariants.{Finite as finite, Unbounded as unbounded}
use Rattle.syntax.specs.Types.{TypeFound, typing_of, bound_fits, found}
use Rattle.syntax.specs.declared.NodeType.{NodeType}
use Rattle.syntax.specs.declared.NodeType.TheVariants.{Policy}
use Rattle.parsed_sheets.specs.Bounds.{AtMost}

pub low-more : (k : Bound) (x y : ℕ) → x ≤ y → AtMost k x → AtMost k y
low-more (finite k) x y h l = omega arith
low-more unbounded x y h l = tt

pub low-larger : (j k : Bound) (x y z : ℕ) → x + y ≤ z → AtMost j x → AtMost k y → AtMost (larger j k) z
low-larger (finite j) (finite k) x y z h l m = omega arith
low-larger (finite j) unbounded x y z h l m = tt
low-larger unbounded k x y z h l m = tt

pub low-plus : (j k : Bound) (x y z : ℕ) → x + y ≤ z → AtMost j x → AtMost k y → AtMost (plus j k) z
low-plus (finite j) (finite k) x y z h l m = omega arith
low-plus (finite j) unbounded x y z h l m = tt
low-plus unbounded k x y z h l m = tt

-- a wait of n actions, and then the larger of two
pub low-wait : (n : ℕ) (j k : Bound) (x y z : ℕ) → 60 + (x + y) ≤ z → n ≤ 60 → AtMost j x → AtMost k y → AtMost (plus (finite n) (larger j k)) z
low-wait n j k x y z h l p q = low-plus (finite n) (larger j k) 60 (x + y) z h l (low-larger j k x y (x + y) (omega arith) p q)

low_fits : (k : Bound) (size : ℕ) → size ≤ 64 → AtMost k (60 * size) → bound_fits k ≡ true
low_fits (finite k) size h l = le-leb k 65534 (omega arith)
low_fits unbounded size h l = refl

-- The type t of a node is that of policy p, of mode m, with a bound that is low for so many nodes.
pub record IsPolicy (m : Mode) (p : APolicy) (size : ℕ) (t : NodeType) : Type 0 where
  pub bound : Bound
  pub is : t ≡ Policy m bound
  pub type : policy_type p ≡ typed m bound
  pub low : AtMost bound (60 * size)

-- A node fits, with a type of which Has holds.
pub record Found (Has : NodeType → Type 0) (x : TypeFound) : Type 0 where
  pub type : NodeType
  pub fits : x ≡ Ok type
  pub has : Has type

pub found-policy : {m : Mode} {p : APolicy} {size : ℕ} (s : Typing) (k : Bound) → s ≡ typed m k → policy_type p ≡ typed m k → size ≤ 64 → AtMost k (60 * size)
    → Found (IsPolicy m p size) (found s)
found-policy {m} {p} {size} s k e type h low =
    record { type = Policy m k; fits = rw (e, low_fits k size h low); has = record { bound = k; is = refl; type = type; low = low } }

-- a policy over one, two and three: its typing is made of theirs
module _ {o : Mode} {p : APolicy} {size : ℕ} {m : Mode} {a : APolicy} {s : ℕ} {t : NodeType} where
  pub over-one : (F : Typing → Typing) (x : IsPolicy m a s t) {k : Bound} → F (typed m x.bound) ≡ typed o k → policy_type p ≡ F (policy_type a) → size ≤ 64
      → AtMost k (60 * size) → Found (IsPolicy o p size) (found (F (typing_of t)))
  over-one F x {k} e q h low = found-policy (F (typing_of t)) k (rw x.is e) (q ∙ rw x.type e) h low

  pub over-two : {n : Mode} {b : APolicy} {r : ℕ} {u : NodeType} (F : Typing → Typing → Typing) (x : IsPolicy m a s t) (y : IsPolicy n b r u) {k : Bound}
      → F (typed m x.bound) (typed n y.bound) ≡ typed o k → policy_type p ≡ F (policy_type a) (policy_type b) → size ≤ 64 → AtMost k (60 * size)
      → Found (IsPolicy o p size) (found (F (typing_of t) (typing_of u)))
  over-two {u = u} F x y {k} e q h low = found-policy (F (typing_of t) (typing_of u)) k (rw (x.is, y.is) e) (q ∙ rw (x.type, y.type) e) h low

  pub over-three : {n : Mode} {b : APolicy} {r : ℕ} {u : NodeType} {l : Mode} {c : APolicy} {i : ℕ} {v : NodeType} (F : Typing → Typing → Typing → Typing)
      (x : IsPolicy m a s t) (y : IsPolicy n b r u) (z : IsPolicy l c i v) {k : Bound} → F (typed m x.bound) (typed n y.bound) (typed l z.bound) ≡ typed o k
      → policy_type p ≡ F (policy_type a) (policy_type b) (policy_type c) → size ≤ 64 → AtMost k (60 * size) → Found (IsPolicy o p size) (found (F (typing_of t) (typing_of u) (typing_of v)))
  over-three {u = u} {v = v} F x y z {k} e q h low =
      found-policy (F (typing_of t) (typing_of u) (typing_of v)) k (rw (x.is, y.is, z.is) e) (q ∙ rw (x.type, y.type, z.type) e) h low
