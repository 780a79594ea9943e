-- Nodes written one after the other.
-- Assumes nothing.
use mathlib.Core.Path.{◌≡◌, refl, sym, ap, ◌∙◌}
use mathlib.Core.List.{List, [], ◌∷◌, ◌++◌, append_assoc, append-nil}
use Prim.Native.Nat.{ℕ, ◌+◌, ◌*◌, ◌≤◌, ◌<◌}
use native.Mathlib.Omega.{arith}
use lib.ListN.{length, take, drop, length-append, length-take}
use lib.Seq.{sets, sets-eq, length-sets, take_at}
use Rattle.syntax.specs.declared.Node.{Node}
use Rattle.sheet_writer.specs.Bytes.{node_room, node_bytes, all_bytes}
use Rattle.sheet_writer.specs.Writing.{Wrote, WroteOne}

pub bytes-append : (a b : List Node) → all_bytes (a ++ b) ≡ all_bytes a ++ all_bytes b
bytes-append [] b = refl
bytes-append (node ∷ a) b = rw (bytes-append a b) (sym (append_assoc (node_bytes node) (all_bytes a) (all_bytes b)))

module _ {n : ℕ} {x y z : List ℕ} where
  pub wrote_then : {a b : List Node} {m : ℕ} → Wrote a n x y → m ≡ n + length a → Wrote b m y z → Wrote (a ++ b) n x z
  wrote_then {a} {b} {m} p e q = record { sized = q.sized ∙ p.sized; front = front }
    where
      front : n + length (a ++ b) ≤ 64 → take (5 * (n + length (a ++ b))) z ≡ take (5 * n) x ++ all_bytes (a ++ b)
      front h =
          let l = length-append a b in
          let s : n + length (a ++ b) ≡ m + length b = omega arith in
          let h' : m + length b ≤ 64 = omega arith in
          let g : n + length a ≤ 64 = omega arith in
          rw s (q.front h' ∙ rw (e, bytes-append a b, p.front g) (append_assoc (take (5 * n) x) (all_bytes a) (all_bytes b)))

-- A node with another of the same bytes in its place, where there is room.
pub wrote_as : {n : ℕ} {x y : List ℕ} {a b : Node} → (n + 1 ≤ 64 → a ≡ b) → Wrote (a ∷ []) n x y → Wrote (b ∷ []) n x y
wrote_as {n} {x} {y} {a} {b} e w =
    record { sized = w.sized; front = λ h. w.front h ∙ ap (λ (node : Node). take (5 * n) x ++ all_bytes (node ∷ [])) (e h) }

-- The bytes of a node are those of a list of one.
pub wrote_one : (node : Node) {n : ℕ} {x y : List ℕ} → WroteOne (node_bytes node) n x y → Wrote (node ∷ []) n x y
wrote_one node w = record { sized = w.sized; front = λ h. rw append-nil (w.front h) }
