-- The sheet of an action list and nodes, as what stands before its nodes and the bytes of its nodes; and the two written one after the other.
-- Assumes nothing.
use mathlib.Core.Path.{◌≡◌, refl, sym, ap, ◌∙◌}
use mathlib.Core.List.{List, [], ◌∷◌, ◌++◌, append-nil, append_assoc}
use Prim.Native.Nat.{ℕ, zero, suc, ◌+◌, ◌*◌, ◌-◌, ◌≤◌}
use native.Mathlib.Omega.{arith}
use lib.ListN.{length, get_or, take, drop, replicate}
use lib.Seq.{sets, take_at, drop_at, drop-drop}
use borrow.Rule.Slice.PartMut.{put_mid, post_of}
use Rattle.base.specs.Build.{joined}
use Rattle.base.specs.Word.{word_bytes}
use Rattle.base.proofs.Lists.{sets-front}
use Rattle.syntax.specs.Nodes.{node_at}
use Rattle.syntax.specs.declared.Node.{Node}
use Rattle.syntax.specs.declared.Node.TheVariants.{True}
use Rattle.sheet_writer.specs.Bytes.{node_bytes, action_bytes, front_bytes, nodes_bytes, all_bytes, sheet_bytes}
use Rattle.sheet_writer.specs.Sheets.{listed_sheet}
use Rattle.sheet_writer.specs.Writing.{SheetRoom, sheet_length}
use Rattle.sheet_writer.proofs.Written.{length_front}

-- the first of lists joined one after the other, and the rest
joined-first : (n : ℕ) (f : ℕ → List ℕ) → joined (suc n) f ≡ f 0 ++ joined n (λ i. f (suc i))
joined-first zero f = sym (append-nil (f 0))
joined-first (suc n) f =
    ap (λ (l : List ℕ). l ++ f (suc n)) (joined-first n f) ∙ append_assoc (f 0) (joined n (λ i. f (suc i))) (f (suc n))

-- Only what is listed is written, whatever stands after it.
actions-listed : (actions more : List ℕ) → action_bytes (actions ++ more) (length actions) ≡ action_bytes actions (length actions)
actions-listed [] more = refl
actions-listed (a ∷ actions) more =
    joined-first (length actions) (λ i. word_bytes (get_or (a ∷ actions ++ more) i 0)) ∙ ap (λ (l : List ℕ). word_bytes a ++ l) (actions-listed actions more)
    ∙ sym (joined-first (length actions) (λ i. word_bytes (get_or (a ∷ actions) i 0)))

nodes-listed : (nodes : List Node) (more : List Node) → nodes_bytes (nodes ++ more) (length nodes) ≡ all_bytes nodes
nodes-listed [] more = refl
nodes-listed (node ∷ nodes) more =
    joined-first (length nodes) (λ i. node_bytes (node_at (node ∷ nodes ++ more) i)) ∙ ap (λ (l : List ℕ). node_bytes node ++ l) (nodes-listed nodes more)

module _ (actions : List ℕ) (nodes : List Node) where
  -- The sheet of an action list and nodes: what stands before the nodes, and the nodes.
  pub sheet-bytes : sheet_bytes (listed_sheet actions nodes) ≡ front_bytes (length actions) (length nodes) actions ++ all_bytes nodes
  sheet-bytes =
      rw (
        actions-listed actions (replicate (16 - length actions) 0),
        nodes-listed nodes (replicate (64 - length nodes) True),
      )

-- Bytes stored to the front of an area, and others in place of as many after them.
module _ (front bytes out whole part : List ℕ) (n k : ℕ) (size : length front ≡ n) (room : n ≤ length out) (first : whole ≡ sets out 0 front) (second : part ≡ bytes) where
  laid : whole ≡ front ++ drop n out
  laid = first ∙ sets-front out front (omega arith) ∙ ap (λ (i : ℕ). front ++ drop i out) size

  after : post_of n k whole ≡ drop (n + k) out
  after = ap (λ (l : List ℕ). drop k l) (ap (drop n) laid ∙ drop_at front (drop n out) n size) ∙ drop-drop k n out

  both-written : put_mid n k whole part ≡ front ++ (bytes ++ drop (n + k) out)
  both-written = rw (after, second) (ap (λ (l : List ℕ). l ++ (bytes ++ drop (n + k) out)) (ap (take n) laid ∙ take_at front (drop n out) n size))

-- What stands before the nodes, and the nodes after it.
module _ (actions : List ℕ) (count : ℕ) (nodes out : List ℕ) (r : SheetRoom actions count nodes out) (whole part : List ℕ) where
  abbrev start : ℕ
  start = 10 + 2 * length actions

  pub sheet-written : whole ≡ sets out 0 (front_bytes (length actions) count actions) → part ≡ take (5 * count) nodes
      → put_mid start (start + 5 * count - start) whole part ≡ front_bytes (length actions) count actions ++ (take (5 * count) nodes ++ drop (sheet_length actions count) out)
  sheet-written first second =
      let e : start + 5 * count - start ≡ 5 * count = omega arith in
      rw e
      (both-written (front_bytes (length actions) count actions) (take (5 * count) nodes) out whole part start (5 * count)
      (length_front (record { actions = length actions; propositions = actions; count = count; nodes = [] })) (omega arith) first second)
