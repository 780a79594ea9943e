-- Laws of the nodes read one by one: a fault stays, and what reading the first ones gives.
-- Assumes nothing.
use Rattle.sheet_reading.specs.declared.NodeError.TheVariants.{WrongField, UnknownKind}
use Rattle.std.proofs.Common.{Err, Ok}
use Rattle.syntax.specs.declared.Node.{Node}
use mathlib.Core.Path.{◌≡◌, refl, sym, ap, ◌∙◌}
use mathlib.Core.List.{List}
use Prim.Native.Nat.{ℕ, zero, suc, ◌+◌, ◌*◌, ◌≤◌, ◌<◌}
use native.Mathlib.Decide.{ℕ_discrete}
use native.Mathlib.Omega.{arith}
use lib.ListN.{get_or}
use Rattle.base.proofs.Filled.{Filled, filled_none, filled_more}
use Rattle.syntax.specs.declared.Fault.{Fault}
use Rattle.syntax.specs.declared.Fault.TheVariants.{UnknownKindAt, WrongFieldAt}
use Rattle.syntax.specs.declared.Node.TheVariants.{True}
use Rattle.sheet_layout.specs.Layout.{nodes_at, field}
use Rattle.sheet_reading.specs.Reading.{NodeRead, read_fields, node_read, RightBefore, all_read, stopped_at, read_next, unless_stopped, read_nodes}
use Rattle.sheet_reading.specs.declared.NodesRead.{NodesRead}

-- the node listed at n is the one that is read
abbrev pub IsRead : List ℕ → ℕ → Node → Type 0
IsRead bytes n listed = node_read bytes n ≡ Ok listed

abbrev pub NodesListed : List ℕ → ℕ → List Node → Type 0
NodesListed bytes n nodes = Filled True (IsRead bytes) 64 n nodes

module _ (bytes : List ℕ) where
  -- the fields of node n stand where the code reads them
  pub node-at : (n at : ℕ) (r : NodeRead) → at ≡ nodes_at bytes + 5 * n
      → r ≡ read_fields n (get_or bytes at 0) (get_or bytes (at + 1) 0) (get_or bytes (at + 2) 0) (get_or bytes (at + 3) 0) (get_or bytes (at + 4) 0)
      → r ≡ node_read bytes n
  node-at n at r e is =
      is ∙ rw e (ap (λ (i : ℕ). read_fields n (get_or bytes i 0) (field bytes n 1) (field bytes n 2) (field bytes n 3) (field bytes n 4)) (omega arith))

  -- a fault stays
  fault-stays : (m n : ℕ) (nodes : List Node) (f : Fault) → read_nodes bytes n ≡ stopped_at nodes f → n ≤ m → read_nodes bytes m ≡ stopped_at nodes f
  fault-stays zero n nodes f e h = let z : n ≡ 0 = omega arith in rw z at e
  fault-stays (suc m) n nodes f e h = go (fault-stays m n nodes f e) (ℕ_discrete n (suc m))
    where
      go : (n ≤ m → read_nodes bytes m ≡ stopped_at nodes f) → Dec (n ≡ suc m) → read_nodes bytes (suc m) ≡ stopped_at nodes f
      go below (yes p) = rw p at e
      go below (no q) = rw (below (omega arith))

  -- the nodes before n are read, and what is read of node n is known
  module _ (n : ℕ) (nodes : List Node) (before : read_nodes bytes n ≡ all_read nodes) (r : NodeRead) (is : r ≡ node_read bytes n) where
    pub read_more : read_nodes bytes (suc n) ≡ read_next n nodes r
    read_more = rw before (ap (read_next n nodes) (sym is))

    pub stopped-at : (count : ℕ) (f : Fault) → n < count → read_next n nodes r ≡ stopped_at nodes f → read_nodes bytes count ≡ stopped_at nodes f
    stopped-at count f h e = fault-stays count (suc n) nodes f (read_more ∙ e) h

  -- What reading the first n nodes gives: all of them, or those before the first that fails check 4 or 5, with its fault.
  pub data ReadTo (n : ℕ) : NodesRead → Type 0 where
    all_right : {nodes : List Node} → NodesListed bytes n nodes → ReadTo n (all_read nodes)
    no_kind : (i : ℕ) {nodes : List Node} → i < n → NodesListed bytes i nodes → node_read bytes i ≡ Err UnknownKind → ReadTo n (stopped_at nodes (UnknownKindAt i))
    no_field : (i : ℕ) {nodes : List Node} → i < n → NodesListed bytes i nodes → node_read bytes i ≡ Err WrongField → ReadTo n (stopped_at nodes (WrongFieldAt i))

  module _ {n : ℕ} (h : n < 64) where
    read-next : {nodes : List Node} → NodesListed bytes n nodes → (r : NodeRead) → node_read bytes n ≡ r → ReadTo (suc n) (read_next n nodes r)
    read-next l (Ok node) e = all_right (filled_more l h e)
    read-next l (Err WrongField) e = no_field n (omega arith) l e
    read-next l (Err UnknownKind) e = no_kind n (omega arith) l e

    read-on : {read : NodesRead} → ReadTo n read → ReadTo (suc n) (unless_stopped read.judged read (λ nodes. read_next n nodes (node_read bytes n)))
    read-on (all_right l) = read-next l (node_read bytes n) refl
    read-on (no_kind i g l e) = no_kind i (omega arith) l e
    read-on (no_field i g l e) = no_field i (omega arith) l e

  pub read-to : (n : ℕ) → n ≤ 64 → ReadTo n (read_nodes bytes n)
  read-to zero h = all_right filled_none
  read-to (suc n) h = read-on h (read-to n (omega arith))

  pub right-read : (n : ℕ) → RightBefore bytes n → read_nodes bytes n ≡ all_read (read_nodes bytes n).nodes
  right-read zero each = refl
  right-read (suc n) each = rw (right-read n (λ i h. each i (omega arith)), (each n (omega arith)).1)
